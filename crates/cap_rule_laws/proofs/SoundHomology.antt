-- The rules of homology and exactness.
use Rattle.cap_laws.specs.Linear.{CategoryData, IsLinear, Same}
use Rattle.cap_laws.proofs.Calculus.{back, ◌⟫◌ as join}
use Rattle.cap_laws.proofs.Opposite.{turned, opposite-linear}
use Rattle.cap_laws.proofs.Textbook.{weak-from-kernel}
use Rattle.cap_abstract.proofs.Exactness.{homology-from-kernel, part-from-zero, exact-from-weak-kernels, middle-of-exact}
use Rattle.cap_rule_laws.specs.Soundness.{Computes}
use Rattle.cap_rule_laws.proofs.SoundTyped.{computes-by}
use Rattle.cap_rule_laws.proofs.SoundBodies.{rule-55, rule-56, rule-57}

module _ {Obj Mor : Type 0} {C : CategoryData Obj Mor} (L : IsLinear C) where
  infixr 5 ◌⟫◌
  ◌⟫◌ : {a b : Obj} {f g h : Mor} → Same C a b f g → Same C a b g h → Same C a b f h
  ◌⟫◌ s t = join L s t

  pub sound-55 : Computes C 43 rule-55
  sound-55 = computes-by C 43 rule-55 (λ f g e. (
    record { a = e.b; b = e.c; arrow = e.second },
    λ i K. (
      record { a = K.0; b = e.a; c = e.b; first = K.1.arrow; second = e.first },
      (
        λ l U. (
          record { a = e.a; b = K.0; arrow = U.arrow },
          λ p P. (K.0, P.0, homology-from-kernel L K.1 U.arrow U.is P.1),
        ),
        λ none z. let w = part-from-zero L e.first K.1 z in none w.by (record { arrow = w.arrow; is = w.holds }),
      ),
    ),
  ))

  pub sound-56 : Computes C 44 rule-56
  sound-56 = computes-by C 44 rule-56 (λ f g e. (
    e,
    λ m M. (
      record { a = e.a; b = e.c; arrow = M.left },
      (
        λ z. (
          record { a = e.b; b = e.c; arrow = e.second },
          λ i K. (
            record { a = e.a; b = e.b; arrow = e.first },
            λ p P.
                let k = weak-from-kernel L K.1 in
                let c = weak-from-kernel (opposite-linear L) P.1 in (
                  record { a = K.0; b = e.b; c = P.0; first = K.1.arrow; second = turned P.1.arrow },
                  λ n N. (
                    record { a = K.0; b = P.0; arrow = N.left },
                    (
                      λ y. exact-from-weak-kernels L e.first e.second k c (back L M ⟫ z) (back L N ⟫ y),
                      λ no E. no (N ⟫ middle-of-exact L k c E),
                    ),
                  ),
                ),
          ),
        ),
        λ no. (
          record { a = e.b; b = e.c; arrow = e.second },
          λ i K. (
            record { a = e.a; b = e.b; arrow = e.first },
            λ p P. (
              record { a = K.0; b = e.b; c = P.0; first = K.1.arrow; second = turned P.1.arrow },
              λ n N. (record { a = K.0; b = P.0; arrow = N.left }, (λ y E. no (M ⟫ E.zero), λ no' E. no (M ⟫ E.zero))),
            ),
          ),
        ),
      ),
    ),
  ))

  pub sound-57 : Computes C 44 rule-57
  sound-57 = computes-by C 44 rule-57 (λ f g e. (
    e,
    λ m M. (
      record { a = e.a; b = e.c; arrow = M.left },
      (
        λ z. (
          record { a = e.b; b = e.c; arrow = e.second },
          λ i K. (
            record { a = e.a; b = e.b; arrow = e.first },
            λ p P. (
              record { a = K.0; b = e.b; c = P.0; first = K.1.arrow; second = turned P.1.arrow },
              λ n N. (
                record { a = K.0; b = P.0; arrow = N.left },
                (
                  λ y. exact-from-weak-kernels L e.first e.second K.1 P.1 (back L M ⟫ z) (back L N ⟫ y),
                  λ no E. no (N ⟫ middle-of-exact L K.1 P.1 E),
                ),
              ),
            ),
          ),
        ),
        λ no. (
          record { a = e.b; b = e.c; arrow = e.second },
          λ i K. (
            record { a = e.a; b = e.b; arrow = e.first },
            λ p P. (
              record { a = K.0; b = e.b; c = P.0; first = K.1.arrow; second = turned P.1.arrow },
              λ n N. (record { a = K.0; b = P.0; arrow = N.left }, (λ y E. no (M ⟫ E.zero), λ no' E. no (M ⟫ E.zero))),
            ),
          ),
        ),
      ),
    ),
  ))
