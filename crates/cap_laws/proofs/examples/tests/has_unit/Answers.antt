use Rattle.std.proofs.Common.{◌≡◌, ◌↔◌, ◌∙◌, IsTrue, sym, subst, ap}
use Rattle.cap_laws.specs.Linear.{CategoryData, IsLinear}
use Rattle.cap_laws.proofs.Sizes.{first-arrow, answer-gives}
use Rattle.cap_laws.proofs.examples.tests.has_unit.Goals as goal

-- a composite of what stands for an identity
unit-at : {Obj Mor : Type 0} (C : CategoryData Obj Mor) → IsLinear C → (a : Obj) (f one composite : Mor) → C.is_morphism f → a ≡ C.source f → one ≡ C.identity a → composite ≡ C.compose one f → C.congruent composite f
unit-at C L a f one composite h s i e =
    subst (λ m. C.congruent m f) (sym (e ∙ ap (λ m. C.compose m f) (i ∙ ap (λ x. C.identity x) s))) (L.unit_left (first-arrow C f h))

pub returns : goal.returns
returns g c =
    let K = g.C.Cat.category c.args.c.now in
    let f = c.args.f.now in
    let left = c.in_ok-left.left in
    let u = unit-at K (g.met.C.Cat.linear c.args.c.now) c.source.result.now f c.in_ok-first.first left c.requires c.source.ensures c.in_ok-first.ensures.0 c.in_ok-left.ensures.0 in
    answer-gives (g.C.Cat.congruent_meets c.args.c.now left f) (λ b. IsTrue b ↔ K.congruent left f) (λ b. IsTrue b) c.congruent.result c.congruent.ensures (λ b h. h.1 u)
