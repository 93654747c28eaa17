-- The rules of monos, epis, isomorphisms, sections and inverses.
use Rattle.cap_laws.specs.Linear.{CategoryData, IsLinear, Same}
use Rattle.cap_laws.proofs.Calculus.{from-object, to-object, back, ◌⟫◌ as join}
use Rattle.cap_laws.proofs.Opposite.{turn, turned, turn-same, turned-same, opposite-linear, opposite-inverse}
use Rattle.cap_laws.proofs.Textbook.{weak-from-kernel, mono-from-weak-kernel}
use Rattle.cap_laws.proofs.Isos.{iso-from-splits, iso-splits-mono, iso-splits-epi}
use Rattle.cap_abstract.proofs.Cancelling.{mono-from-pullback, pullback-of-mono, inverse-from-section, section-of-inverse}
use Rattle.cap_rule_laws.specs.Soundness.{Computes}
use Rattle.cap_rule_laws.proofs.SoundTyped.{computes-by}
use Rattle.cap_rule_laws.proofs.SoundBodies.{rule-31, rule-32, rule-33, rule-34, rule-35, rule-36, rule-37, rule-39, rule-40, rule-41, rule-42, rule-43, rule-44, rule-45}
use Rattle.cap_rule_laws.proofs.SoundEnds.{own-arrow}

module _ {Obj Mor : Type 0} {C : CategoryData Obj Mor} (L : IsLinear C) where
  infixr 5 ◌⟫◌
  ◌⟫◌ : {a b : Obj} {f g h : Mor} → Same C a b f g → Same C a b g h → Same C a b f h
  ◌⟫◌ s t = join L s t

  pub sound-31 : Computes C 24 rule-31
  sound-31 = computes-by C 24 rule-31 (λ f e. (
    e,
    λ i K. (
      record { a = K.0; b = e.a; arrow = K.1.arrow },
      (λ z. mono-from-weak-kernel L e.arrow (weak-from-kernel L K.1) z, λ n m. n (m.cancel K.1.arrow K.1.zero)),
    ),
  ))

  pub sound-32 : Computes C 25 rule-32
  sound-32 = computes-by C 25 rule-32 (λ f e. (
    e,
    λ p P.
        let O = opposite-linear L in (
          record { a = e.b; b = P.0; arrow = turned P.1.arrow },
          (λ z. mono-from-weak-kernel O (turn e.arrow) (weak-from-kernel O P.1) (turn-same z), λ n m. n (turned-same (m.cancel P.1.arrow P.1.zero))),
        ),
  ))

  pub sound-33 : Computes C 24 rule-33
  sound-33 = computes-by C 24 rule-33 (λ f e. (
    record { a = e.a; b = e.a; c = e.b; first = e.arrow; second = e.arrow },
    λ p q P. (
      record { a = P.0; b = e.a; first = P.1.first; second = P.1.second },
      (λ s. mono-from-pullback L e.arrow P.1 s, λ n m. n (pullback-of-mono L P.1 m)),
    ),
  ))

  pub sound-34 : Computes C 25 rule-34
  sound-34 = computes-by C 25 rule-34 (λ f e. (
    record { c = e.a; a = e.b; b = e.b; first = e.arrow; second = e.arrow },
    λ i j P.
        let O = opposite-linear L in (
          record { a = e.b; b = P.0; first = turned P.1.first; second = turned P.1.second },
          (λ s. mono-from-pullback O (turn e.arrow) P.1 (turn-same s), λ n m. n (turned-same (pullback-of-mono O P.1 m))),
        ),
  ))

  pub sound-35 : Computes C 24 rule-35
  sound-35 = computes-by C 24 rule-35 (λ f e. (
    e,
    λ i K. (
      record { a = K.0; b = e.a; arrow = K.1.arrow },
      (λ z. mono-from-weak-kernel L e.arrow K.1 z, λ n m. n (m.cancel K.1.arrow K.1.zero)),
    ),
  ))

  pub sound-36 : Computes C 25 rule-36
  sound-36 = computes-by C 25 rule-36 (λ f e. (
    e,
    λ p P.
        let O = opposite-linear L in (
          record { a = e.b; b = P.0; arrow = turned P.1.arrow },
          (λ z. mono-from-weak-kernel O (turn e.arrow) P.1 (turn-same z), λ n m. n (turned-same (m.cancel P.1.arrow P.1.zero))),
        ),
  ))

  pub sound-37 : Computes C 26 rule-37
  sound-37 = computes-by C 26 rule-37 (λ f e. (
    e,
    (λ g I. record { arrow = e.arrow; inverse = g; is = I }, λ none i. none i.inverse i.is),
  ))

  pub sound-39 : Computes C 26 rule-39
  sound-39 = computes-by C 26 rule-39 (λ f e. (
    e,
    (
      λ M. (e, (λ E. iso-from-splits L M E, λ n i. n (iso-splits-epi L i))),
      λ n. (e, (λ E i. n (iso-splits-mono L i), λ n' i. n (iso-splits-mono L i))),
    ),
  ))

  pub sound-40 : Computes C 27 rule-40
  sound-40 = computes-by C 27 rule-40 (λ f e. (
    e,
    (λ r R. record { arrow = turn e.arrow; section = r; is = R }, λ none s. none s.section s.is),
  ))

  pub sound-41 : Computes C 28 rule-41
  sound-41 = computes-by C 28 rule-41 (λ f e. (
    e,
    (λ s S. record { arrow = e.arrow; section = s; is = S }, λ none s. none s.section s.is),
  ))

  pub sound-42 : Computes C 30 rule-42
  sound-42 = computes-by C 30 rule-42 (λ f. own-arrow _ (λ F. (
    to-object L F,
    λ m I. (
      record { a = C.target f; b = C.source f; c = C.target f; first = I.left; second = F },
      (
        λ s U. record { arrow = U.arrow; is = U.is ⟫ I },
        λ none s S. none s (record { arrow = S.arrow; is = S.is ⟫ back L I }),
      ),
    ),
  )))

  pub sound-43 : Computes C 31 rule-43
  sound-43 = computes-by C 31 rule-43 (λ f. own-arrow _ (λ F. (
    from-object L F,
    λ m I. (
      record { c = C.source f; a = C.target f; b = C.source f; first = F; second = I.left },
      (
        λ r U. record { arrow = turn U.arrow; is = turn-same (U.is ⟫ I) },
        λ none r R. none r (record { arrow = turned R.arrow; is = turned-same R.is ⟫ back L I }),
      ),
    ),
  )))

  pub sound-44 : Computes C 29 rule-44
  sound-44 = computes-by C 29 rule-44 (λ f. own-arrow _ (λ F. (
    record { a = C.source f; b = C.target f; arrow = F },
    (
      λ s S. (
        record { a = C.source f; b = C.target f; c = C.source f; first = F; second = S.arrow },
        λ m M. (
          from-object L F,
          λ j J. (
            record { a = C.source f; b = C.source f; first = M.left; second = J.left },
            (
              λ e. inverse-from-section L S (back L M ⟫ e ⟫ J),
              λ n g I. n (M ⟫ section-of-inverse L F I S ⟫ back L J),
            ),
          ),
        ),
      ),
      λ none. (from-object L F, λ j J g I. none g (record { arrow = I.arrow; is = I.right })),
    ),
  )))

  pub sound-45 : Computes C 29 rule-45
  sound-45 = computes-by C 29 rule-45 (λ f. own-arrow _ (λ F. (
    record { a = C.source f; b = C.target f; arrow = F },
    (
      λ r R. (
        record { a = C.target f; b = C.source f; c = C.target f; first = turned R.arrow; second = F },
        λ m M. (
          to-object L F,
          λ j J. (
            record { a = C.target f; b = C.target f; first = M.left; second = J.left },
            (
              λ e. record { arrow = turned R.arrow; left = turned-same R.is; right = back L M ⟫ e ⟫ J },
              λ n g I. n (M ⟫ turned-same (section-of-inverse (opposite-linear L) (turn F) (opposite-inverse I) R) ⟫ back L J),
            ),
          ),
        ),
      ),
      λ none. (to-object L F, λ j J g I. none g (record { arrow = turn I.arrow; is = turn-same I.left })),
    ),
  )))
