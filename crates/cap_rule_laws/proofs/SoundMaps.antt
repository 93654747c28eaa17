-- The rules of maps between kernels, of subobjects, and of equalizers by graphs.
use Rattle.cap_laws.specs.Linear.{CategoryData, IsLinear, Same}
use Rattle.cap_laws.proofs.Calculus.{from-object, to-object, same, back, ◌⟫◌ as join, added}
use Rattle.cap_laws.proofs.Opposite.{turn, turned, turn-same, turned-same, opposite-linear, opposite-direct-sum}
use Rattle.cap_abstract.proofs.Biproducts.{swapped-direct-sum}
use Rattle.cap_abstract.proofs.Squares.{pullback-along-same, equalizer-from-pullback}
use Rattle.cap_abstract.proofs.Images.{union-from-image}
use Rattle.cap_rule_laws.specs.Soundness.{Computes}
use Rattle.cap_rule_laws.proofs.SoundTyped.{computes-by}
use Rattle.cap_rule_laws.proofs.SoundBodies.{rule-50, rule-51, rule-52, rule-53, rule-54, rule-58, rule-59}
use Rattle.cap_rule_laws.proofs.SoundEnds.{own-parallel, own-cospan}

module _ {Obj Mor : Type 0} {C : CategoryData Obj Mor} (L : IsLinear C) where
  infixr 5 ◌⟫◌
  ◌⟫◌ : {a b : Obj} {f g h : Mor} → Same C a b f g → Same C a b g h → Same C a b f h
  ◌⟫◌ s t = join L s t

  pub sound-50 : Computes C 38 rule-50
  sound-50 = computes-by C 38 rule-50 (λ i h j e. (
    record { a = e.k; b = e.a; c = e.b; first = e.first; second = e.middle },
    λ m M. (
      record { a = e.l; b = e.k; c = e.b; first = e.last; second = M.left },
      (
        λ u U. record { arrow = U.arrow; is = U.is ⟫ M },
        λ none u U. none u (record { arrow = U.arrow; is = U.is ⟫ back L M }),
      ),
    ),
  ))

  pub sound-51 : Computes C 39 rule-51
  sound-51 = computes-by C 39 rule-51 (λ p h q e. (
    record { a = e.a; b = e.b; c = e.d; first = e.middle; second = e.last },
    λ m M. (
      record { c = e.a; a = e.c; b = e.d; first = e.first; second = M.left },
      (
        λ u U. record { arrow = U.arrow; is = U.is ⟫ M },
        λ none u U. none u (record { arrow = U.arrow; is = U.is ⟫ back L M }),
      ),
    ),
  ))

  pub sound-52 : Computes C 40 rule-52
  sound-52 = computes-by C 40 rule-52 (λ m n e. (
    e,
    λ p q P. (
      record { a = P.0; b = e.a; c = e.c; first = P.1.first; second = e.first },
      λ d D. (P.0, record { p = p; q = q; pullback = P.1; is = D }),
    ),
  ))

  pub sound-53 : Computes C 41 rule-53
  sound-53 = computes-by C 41 rule-53 (λ m n. own-cospan _ (λ c M N. (
    record { first = from-object L M; second = from-object L N },
    λ i j P. (
      record { s = P.0; t = c; a = C.source m; b = C.source n; first = turned P.1.first; second = turned P.1.second; left = M; right = N },
      (
        λ w W. (
          record { a = P.0; b = c; arrow = W.arrow },
          λ e k I. (I.0, union-from-image L P.1 W.arrow (record { first = turn-same W.first; second = turn-same W.second }) I.1),
        ),
        λ none.
            let w = P.1.pair (turn M) (turn N) in
            none w.by (record { arrow = turned w.arrow; first = turned-same w.holds.first; second = turned-same w.holds.second }),
      ),
    ),
  )))

  pub sound-54 : Computes C 42 rule-54
  sound-54 = computes-by C 42 rule-54 (λ m n e. (
    e,
    (
      λ u U. record { by = u; arrow = U.arrow; holds = U.is },
      λ none s. none s.by (record { arrow = s.arrow; is = s.holds }),
    ),
  ))

  pub sound-58 : Computes C 32 rule-58
  sound-58 = computes-by C 32 rule-58 (λ f g. own-parallel _ (λ F G. (
    record { first = from-object L F; second = to-object L F },
    λ i1 i2 p1 p2 D. (
      record { a = C.source f; b = C.target f; c = D.0; first = F; second = D.1.in2 },
      λ x X. (
        record { a = C.source f; b = D.0; first = D.1.in1; second = X.left },
        λ m M. (
          record { a = C.source f; b = C.target f; c = D.0; first = G; second = D.1.in2 },
          λ y Y. (
            record { a = C.source f; b = D.0; first = D.1.in1; second = Y.left },
            λ n N. (
              record { a = C.source f; b = C.source f; c = D.0; first = M.left; second = N.left },
              λ p q P. (P.0, equalizer-from-pullback L F G D.1 (pullback-along-same L (M ⟫ added L (same L D.1.in1) X) (N ⟫ added L (same L D.1.in1) Y) P.1)),
            ),
          ),
        ),
      ),
    ),
  )))

  pub sound-59 : Computes C 33 rule-59
  sound-59 = computes-by C 33 rule-59 (λ f g. own-parallel _ (λ F G. (
    record { first = from-object L F; second = to-object L F },
    λ i1 i2 p1 p2 D. (
      record { a = D.0; b = C.source f; c = C.target f; first = D.1.out1; second = F },
      λ x X. (
        record { a = D.0; b = C.target f; first = D.1.out2; second = X.left },
        λ m M. (
          record { a = D.0; b = C.source f; c = C.target f; first = D.1.out1; second = G },
          λ y Y. (
            record { a = D.0; b = C.target f; first = D.1.out2; second = Y.left },
            λ n N. (
              record { c = D.0; a = C.target f; b = C.target f; first = M.left; second = N.left },
              λ i j P.
                  let O = opposite-linear L in
                  let ms = M ⟫ added L (same L D.1.out2) X in
                  let ns = N ⟫ added L (same L D.1.out2) Y in
                  (P.0, equalizer-from-pullback O (turn F) (turn G) (swapped-direct-sum O (opposite-direct-sum D.1)) (pullback-along-same O (turn-same ms) (turn-same ns) P.1)),
            ),
          ),
        ),
      ),
    ),
  )))
