-- The rules of sums, identities and zeros.
use Rattle.cap_laws.specs.Linear.{CategoryData, IsLinear, Same}
use Rattle.cap_laws.proofs.Calculus.{from-object, to-object, same, back, ◌⟫◌ as join, added, subtracted, equal-from-subtract, subtract-from-equal}
use Rattle.cap_abstract.proofs.Additions.{subtract-negated, zero-subtract}
use Rattle.cap_rule_laws.specs.Soundness.{Computes}
use Rattle.cap_rule_laws.proofs.SoundBodies.{rule-1, rule-2, rule-3, rule-4, rule-5, rule-6, rule-7, rule-8}
use Rattle.cap_rule_laws.proofs.SoundTyped.{computes-by}
use Rattle.cap_rule_laws.proofs.SoundEnds.{own-arrow}

module _ {Obj Mor : Type 0} {C : CategoryData Obj Mor} (L : IsLinear C) where
  infixr 5 ◌⟫◌
  ◌⟫◌ : {a b : Obj} {f g h : Mor} → Same C a b f g → Same C a b g h → Same C a b f h
  ◌⟫◌ s t = join L s t

  pub sound-1 : Computes C 5 rule-1
  sound-1 = computes-by C 5 rule-1 (λ f e. (e, λ m M. M))

  pub sound-2 : Computes C 6 rule-2
  sound-2 = computes-by C 6 rule-2 (λ f g e. (
    record { a = e.a; b = e.b; arrow = e.second },
    λ n N. (record { a = e.a; b = e.b; first = e.first; second = N.left }, λ m M. M ⟫ added L (same L e.first) N),
  ))

  pub sound-3 : Computes C 4 rule-3
  sound-3 = computes-by C 4 rule-3 (λ f g e. (
    record { a = e.a; b = e.b; arrow = e.second },
    λ n N. (record { a = e.a; b = e.b; first = e.first; second = N.left }, λ m M. M ⟫ subtracted L (same L e.first) N ⟫ subtract-negated L e.first e.second),
  ))

  pub sound-4 : Computes C 5 rule-4
  sound-4 = computes-by C 5 rule-4 (λ f. own-arrow _ (λ F. (
    record { first = from-object L F; second = to-object L F },
    λ z Z. (record { a = C.source f; b = C.target f; first = Z.left; second = F }, λ m M. M ⟫ subtracted L Z (same L F) ⟫ zero-subtract L F),
  )))

  pub sound-5 : Computes C 3 rule-5
  sound-5 = computes-by C 3 rule-5 (λ a b e. (
    e,
    λ i1 i2 p1 p2 D. (record { a = a; b = D.0; c = b; first = D.1.in1; second = D.1.out2 }, λ m M. M ⟫ D.1.zero12),
  ))

  pub sound-6 : Computes C 9 rule-6
  sound-6 = computes-by C 9 rule-6 (λ f. own-arrow _ (λ F. (
    record { first = from-object L F; second = to-object L F },
    λ z Z. (record { a = C.source f; b = C.target f; first = F; second = Z.left }, (λ s. s ⟫ Z, λ n s. n (s ⟫ back L Z))),
  )))

  pub sound-7 : Computes C 8 rule-7
  sound-7 = computes-by C 8 rule-7 (λ f g e. (
    e,
    λ d D. (
      record { a = e.a; b = e.b; arrow = D.left },
      (λ s. equal-from-subtract L e.first e.second (back L D ⟫ s), λ n s. n (D ⟫ subtract-from-equal L s)),
    ),
  ))

  pub sound-8 : Computes C 1 rule-8
  sound-8 = computes-by C 1 rule-8 (λ a e. (
    record { first = e; second = e },
    λ i1 i2 p1 p2 D. (record { a = a; b = D.0; c = a; first = D.1.in1; second = D.1.out1 }, λ m M. M ⟫ D.1.unit1),
  ))
