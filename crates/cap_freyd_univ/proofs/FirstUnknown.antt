-- The answer of a solved system, as a morphism.
use Rattle.std.proofs.Common.{◌≡◌, ◌∙◌, ◌<◌, sym, ap, subst, List, Option, Some, None, length, get_or, arith}
use Rattle.cap_laws.specs.Linear.{CategoryData}
use Rattle.cap_laws.specs.Systems.{IsSolution, first_of}
use Rattle.cap_laws.specs.declared.values.System.{System}
use Rattle.cap_freyd_laws.specs.declared.values.Presentation.{Presentation}
use Rattle.cap_freyd_laws.specs.declared.values.PresentationMor.{PresentationMor}
use Rattle.cap_freyd_laws.specs.Canonical.{between}

abbrev pub morphism_of : {Mor : Type 0} → Presentation Mor → Presentation Mor → Mor → PresentationMor Mor
morphism_of a b alpha = record { from = a; to = b; alpha = alpha }

pub answer-made : {Mor : Type 0} (a b : Presentation Mor) (f : PresentationMor Mor) (x d : Mor) (xs : List Mor) (o : Option (List Mor)) → f ≡ morphism_of a b x → x ≡ get_or xs 0 d → o ≡ Some xs → Some f ≡ between a b (first_of d o)
answer-made a b f x d xs o p q r = subst (λ o'. Some f ≡ between a b (first_of d o')) (sym r) (ap (λ g. Some g) (p ∙ ap (λ y. morphism_of a b y) q))

pub answer-none : {Mor : Type 0} (a b : Presentation Mor) (d : Mor) (o : Option (List Mor)) → o ≡ None → None ≡ between a b (first_of d o)
answer-none a b d o r = sym (ap (λ o'. between a b (first_of d o')) r)

-- a solution has a morphism for each unknown
pub values-there : {Obj Mor : Type 0} {C : CategoryData Obj Mor} {s : System Obj Mor} {xs : List Mor} → IsSolution C s xs → 0 < length s.unknowns → 0 < length xs
values-there S h = omega (arith, S.count, h)
