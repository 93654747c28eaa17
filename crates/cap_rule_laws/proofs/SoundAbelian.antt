-- The rules that hold in abelian categories.
use Rattle.cap_laws.specs.Linear.{CategoryData, IsLinear, Same}
use Rattle.cap_laws.specs.Universal.{IsAbelian}
use Rattle.cap_laws.proofs.Calculus.{◌⟫◌ as join}
use Rattle.cap_laws.proofs.Opposite.{turn, turned, turn-same, turned-same, opposite-linear, opposite-abelian}
use Rattle.cap_laws.proofs.Isos.{iso-mono, iso-epi}
use Rattle.cap_abstract.proofs.Cancelling.{iso-from-mono-epi}
use Rattle.cap_abstract.proofs.Images.{image-from-kernel, coimage-from-image}
use Rattle.cap_rule_laws.specs.Soundness.{Computes}
use Rattle.cap_rule_laws.proofs.SoundTyped.{computes-by}
use Rattle.cap_rule_laws.proofs.SoundBodies.{rule-38, rule-46, rule-47, rule-48, rule-49}

module _ {Obj Mor : Type 0} {C : CategoryData Obj Mor} (L : IsLinear C) (A : IsAbelian C) where
  infixr 5 ◌⟫◌
  ◌⟫◌ : {a b : Obj} {f g h : Mor} → Same C a b f g → Same C a b g h → Same C a b f h
  ◌⟫◌ s t = join L s t

  pub sound-38 : Computes C 26 rule-38
  sound-38 = computes-by C 26 rule-38 (λ f e. (
    e,
    (
      λ M. (e, (λ E. iso-from-mono-epi L A M E, λ n i. n (iso-epi L i))),
      λ n. (e, (λ E i. n (iso-mono L i), λ n' i. n (iso-mono L i))),
    ),
  ))

  pub sound-46 : Computes C 36 rule-46
  sound-46 = computes-by C 36 rule-46 (λ f e. (
    e,
    λ p P. (
      record { a = e.b; b = P.0; arrow = turned P.1.arrow },
      λ m K. (
        record { a = K.0; b = e.a; c = e.b; first = K.1.arrow; second = e.arrow },
        (
          λ u U. (K.0, image-from-kernel L A P.1 K.1 U.arrow U.is),
          λ none. let w = K.1.lift e.arrow (turned-same P.1.zero) in none w.by (record { arrow = w.arrow; is = w.holds }),
        ),
      ),
    ),
  ))

  pub sound-47 : Computes C 37 rule-47
  sound-47 = computes-by C 37 rule-47 (λ f e. (
    e,
    λ i K. (
      record { a = K.0; b = e.a; arrow = K.1.arrow },
      λ p P. (
        record { c = e.a; a = P.0; b = e.b; first = turned P.1.arrow; second = e.arrow },
        (
          λ u U. (P.0, image-from-kernel (opposite-linear L) (opposite-abelian A) K.1 P.1 (turn U.arrow) (turn-same U.is)),
          λ none. let w = P.1.lift (turn e.arrow) (turn-same K.1.zero) in none w.by (record { arrow = turned w.arrow; is = turned-same w.holds }),
        ),
      ),
    ),
  ))

  pub sound-48 : Computes C 36 rule-48
  sound-48 = computes-by C 36 rule-48 (λ f e. (e, λ p m I. (I.0, coimage-from-image (opposite-linear L) (opposite-abelian A) I.1)))

  pub sound-49 : Computes C 37 rule-49
  sound-49 = computes-by C 37 rule-49 (λ f e. (e, λ p m I. (I.0, coimage-from-image L A I.1)))
