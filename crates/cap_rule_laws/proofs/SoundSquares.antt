-- The rules of direct sums, products, kernels, equalizers and pullbacks.
use Rattle.std.proofs.Common.{sym, subst}
use Rattle.cap_laws.specs.Linear.{CategoryData, IsLinear, Same}
use Rattle.cap_laws.specs.Universal.{IsZeroObject}
use Rattle.cap_ops.specs.Meaning.{IsZeroIdentity}
use Rattle.cap_laws.proofs.Calculus.{from-object, to-object, same, back, ◌⟫◌ as join, composed, added, subtracted}
use Rattle.cap_laws.proofs.Opposite.{turn, turned, turn-same, turned-same, opposite-linear, opposite-direct-sum, opposite-zero-object}
use Rattle.cap_laws.proofs.Textbook.{product-from-direct-sum, kernel-from-equalizer, equalizer-from-kernel, kernel-of-same, weak-from-kernel, pullback-from-kernel, pullback-of-same}
use Rattle.cap_abstract.proofs.Biproducts.{direct-sum-from-product, pair-from-lift, lift-from-pair}
use Rattle.cap_abstract.proofs.Squares.{equalizer-of-same, pullback-along-same, pullback-from-equalizer, kernel-from-pullback}
use Rattle.cap_rule_laws.specs.Soundness.{Computes}
use Rattle.cap_rule_laws.proofs.SoundBodies.{rule-9, rule-10, rule-11, rule-12, rule-13, rule-14, rule-15, rule-16, rule-17, rule-18, rule-19, rule-20, rule-21, rule-22, rule-23, rule-24, rule-25, rule-26, rule-27, rule-28, rule-29, rule-30}
use Rattle.cap_rule_laws.proofs.SoundTyped.{computes-by}
use Rattle.cap_rule_laws.proofs.SoundEnds.{own-arrow, own-cospan, own-span, own-cones, own-cocones}

module _ {Obj Mor : Type 0} {C : CategoryData Obj Mor} (L : IsLinear C) where
  infixr 5 ◌⟫◌
  ◌⟫◌ : {a b : Obj} {f g h : Mor} → Same C a b f g → Same C a b g h → Same C a b f h
  ◌⟫◌ s t = join L s t

  pub sound-9 : Computes C 12 rule-9
  sound-9 = computes-by C 12 rule-9 (λ a b e. (e, λ i1 i2 p1 p2 D. (D.0, product-from-direct-sum L D.1)))

  pub sound-10 : Computes C 13 rule-10
  sound-10 = computes-by C 13 rule-10 (λ a b e. (e, λ i1 i2 p1 p2 D. (D.0, product-from-direct-sum (opposite-linear L) (opposite-direct-sum D.1))))

  pub sound-11 : Computes C 11 rule-11
  sound-11 = computes-by C 11 rule-11 (λ a b e. (
    e,
    λ p q P. (
      e.first,
      λ m I. (
        e,
        λ n Z.
            let w = P.1.pair I.left Z.left in (
              record { s = P.0; t = a; a = a; b = b; first = P.1.first; second = P.1.second; left = I.left; right = Z.left },
              (
                λ i X. (
                  record { first = e.second; second = e.first },
                  λ n' Z'. (
                    e.second,
                    λ m' I'.
                        let w' = P.1.pair Z'.left I'.left in (
                          record { s = P.0; t = b; a = a; b = b; first = P.1.first; second = P.1.second; left = Z'.left; right = I'.left },
                          (
                            λ j Y. (
                              P.0,
                              direct-sum-from-product L P.1 X.arrow (record { first = X.is.first ⟫ I; second = X.is.second ⟫ Z }) Y.arrow (record { first = Y.is.first ⟫ Z'; second = Y.is.second ⟫ I' }),
                            ),
                            λ N. N w'.by (record { arrow = w'.arrow; is = w'.holds }),
                          ),
                        ),
                  ),
                ),
                λ N.
                    let bad : ⊥ = N w.by (record { arrow = w.arrow; is = w.holds }) in (
                      record { first = e.second; second = e.first },
                      λ n' Z'. (
                        e.second,
                        λ m' I'. (
                          record { s = P.0; t = b; a = a; b = b; first = P.1.first; second = P.1.second; left = Z'.left; right = I'.left },
                          (λ j Y. bad, λ N'. bad),
                        ),
                      ),
                    ),
              ),
            ),
      ),
    ),
  ))

  pub sound-17 : Computes C 16 rule-17
  sound-17 = computes-by C 16 rule-17 (λ f. own-arrow _ (λ F. (
    record { first = from-object L F; second = to-object L F },
    λ z Z. (
      record { a = C.source f; b = C.target f; first = F; second = Z.left },
      λ i E. (E.0, kernel-from-equalizer L F (equalizer-of-same L (same L F) Z E.1)),
    ),
  )))

  pub sound-19 : Computes C 32 rule-19
  sound-19 = computes-by C 32 rule-19 (λ f g e. (
    e,
    λ d D. (record { a = e.a; b = e.b; arrow = D.left }, λ i K. (K.0, equalizer-from-kernel L e.first e.second (kernel-of-same L D K.1))),
  ))

  pub sound-27 : Computes C 20 rule-27
  sound-27 = computes-by C 20 rule-27 (λ f e. (e, λ i K. (K.0, weak-from-kernel L K.1)))

  pub sound-28 : Computes C 21 rule-28
  sound-28 = computes-by C 21 rule-28 (λ f e. (e, λ p P. (P.0, weak-from-kernel (opposite-linear L) P.1)))

  pub sound-29 : Computes C 17 rule-29
  sound-29 = computes-by C 17 rule-29 (λ i t e. (record { a = e.b; b = e.a; c = e.c; first = e.second; second = e.first }, (λ u U. U, λ N. N)))

  pub sound-30 : Computes C 19 rule-30
  sound-30 = computes-by C 19 rule-30 (λ p t e. (e, (λ u U. U, λ N. N)))

  pub sound-12 : Computes C 11 rule-12
  sound-12 = computes-by C 11 rule-12 (λ a b e. (
    e,
    λ i j P.
        let O = opposite-linear L in
        let in1 = turned P.1.first in
        let in2 = turned P.1.second in (
          e.first,
          λ m I. (
            record { first = e.second; second = e.first },
            λ n Z.
                let w = P.1.pair (turn I.left) (turn Z.left) in (
                  record { s = P.0; t = a; a = a; b = b; first = in1; second = in2; left = I.left; right = Z.left },
                  (
                    λ p X. (
                      e,
                      λ n' Z'. (
                        e.second,
                        λ m' I'.
                            let w' = P.1.pair (turn Z'.left) (turn I'.left) in (
                              record { s = P.0; t = b; a = a; b = b; first = in1; second = in2; left = Z'.left; right = I'.left },
                              (
                                λ q Y. (
                                  P.0,
                                  opposite-direct-sum (direct-sum-from-product O P.1 (turn X.arrow) (record { first = turn-same (X.first ⟫ I); second = turn-same (X.second ⟫ Z) })
                                      (turn Y.arrow) (record { first = turn-same (Y.first ⟫ Z'); second = turn-same (Y.second ⟫ I') })),
                                ),
                                λ N. N w'.by (record { arrow = turned w'.arrow; first = turned-same w'.holds.first; second = turned-same w'.holds.second }),
                              ),
                            ),
                      ),
                    ),
                    λ N.
                        let bad : ⊥ = N w.by (record { arrow = turned w.arrow; first = turned-same w.holds.first; second = turned-same w.holds.second }) in (
                          e,
                          λ n' Z'. (
                            e.second,
                            λ m' I'. (
                              record { s = P.0; t = b; a = a; b = b; first = in1; second = in2; left = Z'.left; right = I'.left },
                              (λ q Y. bad, λ N'. bad),
                            ),
                          ),
                        ),
                  ),
                ),
          ),
        ),
  ))

  pub sound-13 : Computes C 14 rule-13
  sound-13 = computes-by C 14 rule-13 (λ p q u v. own-cones _ (λ s t P Q U V. (
    record { first = to-object L P; second = to-object L Q },
    λ i1 i2 p1 p2 D. (
      record { a = s; b = C.target p; c = D.0; first = P; second = D.1.in1 },
      λ c1 C1. (
        record { a = s; b = C.target q; c = D.0; first = Q; second = D.1.in2 },
        λ c2 C2. (
          record { a = s; b = D.0; first = C1.left; second = C2.left },
          λ m M. (
            record { a = t; b = C.target p; c = D.0; first = U; second = D.1.in1 },
            λ d1 D1. (
              record { a = t; b = C.target q; c = D.0; first = V; second = D.1.in2 },
              λ d2 D2. (
                record { a = t; b = D.0; first = D1.left; second = D2.left },
                λ n N.
                    let ms = M ⟫ added L C1 C2 in
                    let ns = N ⟫ added L D1 D2 in (
                      record { a = t; b = s; c = D.0; first = N.left; second = M.left },
                      (
                        λ w W. record { arrow = W.arrow; is = pair-from-lift L D.1 P Q U V W.arrow (composed L (same L W.arrow) (back L ms) ⟫ W.is ⟫ ns) },
                        λ none w W. none w (record { arrow = W.arrow; is = composed L (same L W.arrow) ms ⟫ lift-from-pair L D.1 P Q U V W.arrow W.is ⟫ back L ns }),
                      ),
                    ),
              ),
            ),
          ),
        ),
      ),
    ),
  )))

  pub sound-14 : Computes C 15 rule-14
  sound-14 = computes-by C 15 rule-14 (λ i j u v. own-cocones _ (λ s t I J U V. (
    record { first = from-object L I; second = from-object L J },
    λ i1 i2 p1 p2 D. (
      record { a = D.0; b = C.source i; c = s; first = D.1.out1; second = I },
      λ c1 C1. (
        record { a = D.0; b = C.source j; c = s; first = D.1.out2; second = J },
        λ c2 C2. (
          record { a = D.0; b = s; first = C1.left; second = C2.left },
          λ m M. (
            record { a = D.0; b = C.source i; c = t; first = D.1.out1; second = U },
            λ d1 D1. (
              record { a = D.0; b = C.source j; c = t; first = D.1.out2; second = V },
              λ d2 D2. (
                record { a = D.0; b = t; first = D1.left; second = D2.left },
                λ n N.
                    let O = opposite-linear L in
                    let E = opposite-direct-sum D.1 in
                    let ms = M ⟫ added L C1 C2 in
                    let ns = N ⟫ added L D1 D2 in (
                      record { c = D.0; a = s; b = t; first = M.left; second = N.left },
                      (
                        λ w W.
                            let B = pair-from-lift O E (turn I) (turn J) (turn U) (turn V) (turn W.arrow) (turn-same (composed L (back L ms) (same L W.arrow) ⟫ W.is ⟫ ns)) in
                            record { arrow = W.arrow; first = turned-same B.first; second = turned-same B.second },
                        λ none w W. none w (record {
                          arrow = W.arrow;
                          is = composed L ms (same L W.arrow)
                              ⟫ turned-same (lift-from-pair O E (turn I) (turn J) (turn U) (turn V) (turn W.arrow) (record { first = turn-same W.first; second = turn-same W.second }))
                              ⟫ back L ns;
                        }),
                      ),
                    ),
              ),
            ),
          ),
        ),
      ),
    ),
  )))

  pub sound-15 : Computes C 22 rule-15
  sound-15 = computes-by C 22 rule-15 (λ t f e. (
    record { s = e.b; t = e.a; a = e.c; b = e.c; first = e.second; second = e.second; left = e.first; right = e.first },
    (
      λ w W. record { arrow = W.arrow; is = W.is.first },
      λ none w W. none w (record { arrow = W.arrow; is = record { first = W.is; second = W.is } }),
    ),
  ))

  pub sound-16 : Computes C 23 rule-16
  sound-16 = computes-by C 23 rule-16 (λ f t e. (
    record { s = e.a; t = e.b; a = e.c; b = e.c; first = e.first; second = e.first; left = e.second; right = e.second },
    (
      λ w W. record { arrow = W.arrow; is = W.first },
      λ none w W. none w (record { arrow = W.arrow; first = W.is; second = W.is }),
    ),
  ))

  pub sound-18 : Computes C 18 rule-18
  sound-18 = computes-by C 18 rule-18 (λ f. own-arrow _ (λ F. (
    record { first = from-object L F; second = to-object L F },
    λ z Z. (
      record { a = C.source f; b = C.target f; first = F; second = Z.left },
      λ p E.
          let O = opposite-linear L in
          (E.0, kernel-from-equalizer O (turn F) (equalizer-of-same O (turn-same (same L F)) (turn-same Z) E.1)),
    ),
  )))

  pub sound-20 : Computes C 33 rule-20
  sound-20 = computes-by C 33 rule-20 (λ f g e. (
    e,
    λ d D. (
      record { a = e.a; b = e.b; arrow = D.left },
      λ p P.
          let O = opposite-linear L in
          (P.0, equalizer-from-kernel O (turn e.first) (turn e.second) (kernel-of-same O (turn-same D) P.1)),
    ),
  ))

  pub sound-21 : Computes C 34 rule-21
  sound-21 = computes-by C 34 rule-21 (λ f g. own-cospan _ (λ c F G. (
    record { first = from-object L F; second = from-object L G },
    λ i1 i2 p1 p2 D. (
      record { a = D.0; b = C.source f; c = c; first = D.1.out1; second = F },
      λ m M. (
        record { a = D.0; b = C.source g; c = c; first = D.1.out2; second = G },
        λ n N. (
          record { a = D.0; b = c; first = M.left; second = N.left },
          λ d S. (
            record { a = D.0; b = c; arrow = S.left },
            λ i K. (
              record { a = K.0; b = D.0; c = C.source f; first = K.1.arrow; second = D.1.out1 },
              λ p P. (
                record { a = K.0; b = D.0; c = C.source g; first = K.1.arrow; second = D.1.out2 },
                λ q Q. (K.0, pullback-of-same L F G P Q (pullback-from-kernel L F G D.1 (kernel-of-same L (S ⟫ subtracted L M N) K.1))),
              ),
            ),
          ),
        ),
      ),
    ),
  )))

  pub sound-22 : Computes C 35 rule-22
  sound-22 = computes-by C 35 rule-22 (λ f g. own-span _ (λ c F G. (
    record { first = to-object L F; second = to-object L G },
    λ i1 i2 p1 p2 D. (
      record { a = c; b = C.target f; c = D.0; first = F; second = D.1.in1 },
      λ m M. (
        record { a = c; b = C.target g; c = D.0; first = G; second = D.1.in2 },
        λ n N. (
          record { a = c; b = D.0; first = M.left; second = N.left },
          λ d S. (
            record { a = c; b = D.0; arrow = S.left },
            λ p K.
                let O = opposite-linear L in
                let k = turned K.1.arrow in (
                  record { a = C.target f; b = D.0; c = K.0; first = D.1.in1; second = k },
                  λ i I. (
                    record { a = C.target g; b = D.0; c = K.0; first = D.1.in2; second = k },
                    λ j J. (K.0, pullback-of-same O (turn F) (turn G) (turn-same I) (turn-same J) (pullback-from-kernel O (turn F) (turn G) (opposite-direct-sum D.1) (kernel-of-same O (turn-same (S ⟫ subtracted L M N)) K.1))),
                  ),
                ),
          ),
        ),
      ),
    ),
  )))

  pub sound-23 : Computes C 34 rule-23
  sound-23 = computes-by C 34 rule-23 (λ f g. own-cospan _ (λ c F G. (
    record { first = from-object L F; second = from-object L G },
    λ p1 p2 D. (
      record { a = D.0; b = C.source f; c = c; first = D.1.first; second = F },
      λ m M. (
        record { a = D.0; b = C.source g; c = c; first = D.1.second; second = G },
        λ n N. (
          record { a = D.0; b = c; first = M.left; second = N.left },
          λ i K. (
            record { a = K.0; b = D.0; c = C.source f; first = K.1.arrow; second = D.1.first },
            λ p P. (
              record { a = K.0; b = D.0; c = C.source g; first = K.1.arrow; second = D.1.second },
              λ q Q. (K.0, pullback-of-same L F G P Q (pullback-from-equalizer L F G D.1 (equalizer-of-same L M N K.1))),
            ),
          ),
        ),
      ),
    ),
  )))

  pub sound-24 : Computes C 35 rule-24
  sound-24 = computes-by C 35 rule-24 (λ f g. own-span _ (λ c F G. (
    record { first = to-object L F; second = to-object L G },
    λ i1 i2 D.
        let O = opposite-linear L in
        let in1 = turned D.1.first in
        let in2 = turned D.1.second in (
          record { a = c; b = C.target f; c = D.0; first = F; second = in1 },
          λ m M. (
            record { a = c; b = C.target g; c = D.0; first = G; second = in2 },
            λ n N. (
              record { a = c; b = D.0; first = M.left; second = N.left },
              λ q K.
                  let k = turned K.1.arrow in (
                    record { a = C.target f; b = D.0; c = K.0; first = in1; second = k },
                    λ i I. (
                      record { a = C.target g; b = D.0; c = K.0; first = in2; second = k },
                      λ j J. (K.0, pullback-of-same O (turn F) (turn G) (turn-same I) (turn-same J) (pullback-from-equalizer O (turn F) (turn G) D.1 (equalizer-of-same O (turn-same M) (turn-same N) K.1))),
                    ),
                  ),
            ),
          ),
        ),
  )))

  -- the source of the identity of a zero object is one
  zero-source : {z : Mor} (Z : IsZeroIdentity C z) → IsZeroObject C (C.source z)
  zero-source Z = subst (λ o. IsZeroObject C o) (sym Z.same.left.from) Z.is

  pub sound-25 : Computes C 16 rule-25
  sound-25 = computes-by C 16 rule-25 (λ f. own-arrow _ (λ F. (
    tt,
    λ z Z.
        let null = zero-source Z in (
          record { first = null.object; second = to-object L F },
          λ n N. (
            record { a = C.source f; b = C.source z; c = C.target f; first = F; second = N.left },
            λ p q P. (P.0, kernel-from-pullback L null F (pullback-along-same L (same L F) N P.1)),
          ),
        ),
  )))

  pub sound-26 : Computes C 18 rule-26
  sound-26 = computes-by C 18 rule-26 (λ f. own-arrow _ (λ F. (
    tt,
    λ z Z.
        let null = zero-source Z in
        let O = opposite-linear L in (
          record { first = from-object L F; second = null.object },
          λ n N. (
            record { c = C.source f; a = C.target f; b = C.source z; first = F; second = N.left },
            λ i j P. (P.0, kernel-from-pullback O (opposite-zero-object null) (turn F) (pullback-along-same O (turn-same (same L F)) (turn-same N) P.1)),
          ),
        ),
  )))
