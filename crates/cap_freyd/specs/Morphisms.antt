-- What a call answers that is handed the data of a morphism.
use Rattle.std.specs.Prelude.{◌≡◌, Result, Ok, Err}
use Rattle.cap_laws.specs.Answers.{Size, Fits, Answers}
use Rattle.cap_laws.specs.Linear.{CategoryData}
use Rattle.cap_freyd_laws.specs.declared.values.Presentation.{Presentation}
use Rattle.cap_freyd_laws.specs.declared.values.PresentationMor.{PresentationMor}
use Rattle.cap_freyd_laws.specs.Freyd.{IsFreydMorphism}
use Rattle.cap_freyd.specs.declared.faults.MorphismFault.{MorphismFault}
use Rattle.cap_freyd.specs.declared.faults.MorphismFault.TheVariants.{NotAMorphism, Cat}

-- the morphism of these data where some omega makes it one, and NotAMorphism where none does; each met size is then within the limit
abbrev pub AnswersMorphism : {Obj Mor : Type 0} → CategoryData Obj Mor → (Size → Type 0) → Presentation Mor → Presentation Mor → Mor → Result (PresentationMor Mor) MorphismFault → Type 0
AnswersMorphism C met a b alpha (Ok f) = (f ≡ record { from = a; to = b; alpha = alpha }) × (IsFreydMorphism C a.relation b.relation alpha × ((s : Size) → met s → Fits s))
AnswersMorphism C met a b alpha (Err NotAMorphism) = (IsFreydMorphism C a.relation b.relation alpha → ⊥) × ((s : Size) → met s → Fits s)
AnswersMorphism {Obj} {Mor} C met a b alpha (Err (Cat e)) = Answers {A = PresentationMor Mor} met (λ f. ⊥) (Err e)
