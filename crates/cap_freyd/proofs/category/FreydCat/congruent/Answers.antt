use Rattle.std.proofs.Common.{◌≡◌, refl, sym, subst, ◌↔◌, IsTrue}
use Rattle.cap_laws.specs.Linear.{Arrow}
use Rattle.cap_laws.specs.Systems.{IsSystem, AnswersSystem}
use Rattle.cap_freyd_laws.specs.Freyd.{freyd_data}
use Rattle.cap_freyd_laws.specs.Canonical.{congruence_system}
use Rattle.cap_freyd_laws.proofs.Lifts.{congruence-is-system, congruence-exactly, solved-decides}
use Rattle.cap_freyd.proofs.Sizes.{either}
use Rattle.cap_freyd.proofs.category.FreydCat.congruent.Goals as goal

pub solve_system-requires : goal.solve_system-requires
solve_system-requires g c =
    let L = g.met.P.Cat.linear c.args.self.now.below in
    let K = g.P.Cat.category c.args.self.now.below in
    let f = c.args.f.now in
    let h = c.args.g.now in
    let F : Arrow (freyd_data K) f.from f.to f = record { is = c.requires.left; from = refl; to = refl } in
    let G : Arrow (freyd_data K) f.from f.to h = record { is = c.requires.right; from = sym c.requires.sources; to = sym c.requires.targets } in
    let e : c.in_ok-system.system ≡ congruence_system K f.from.relation f.to.relation f.alpha h.alpha = rw c.in_ok-value.ensures.0 at (rw c.source-y.ensures at (rw c.target-x.ensures at c.in_ok-system.ensures.0)) in
    subst (λ s. IsSystem K s) (sym e) (congruence-is-system L F G)

pub returns : goal.returns
returns g c =
    let L = g.met.P.Cat.linear c.args.self.now.below in
    let K = g.P.Cat.category c.args.self.now.below in
    let f = c.args.f.now in
    let h = c.args.g.now in
    let F : Arrow (freyd_data K) f.from f.to f = record { is = c.requires.left; from = refl; to = refl } in
    let G : Arrow (freyd_data K) f.from f.to h = record { is = c.requires.right; from = sym c.requires.sources; to = sym c.requires.targets } in
    let S = congruence_system K f.from.relation f.to.relation f.alpha h.alpha in
    let e : c.in_ok-system.system ≡ S = rw c.in_ok-value.ensures.0 at (rw c.source-y.ensures at (rw c.target-x.ensures at c.in_ok-system.ensures.0)) in
    let r : c.in_ok-solution.solution ≡ g.P.Lifts.solution_of c.args.self.now.below S = rw e at c.in_ok-solution.ensures.0 in
    let a : AnswersSystem K S c.in_ok-solution.solution = subst (λ x. AnswersSystem K S x) (sym r) (g.met.P.Lifts.solves c.args.self.now.below S (congruence-is-system L F G)) in
    let d = solved-decides L (congruence-exactly L F G) c.in_ok-solution.solution a in
    let sizes = rw c.target-x.ensures at c.in_ok-system.ensures.1 in (
      subst (λ b. IsTrue b ↔ (freyd_data K).congruent f h) (sym c.is_some.ensures) (λ t. (d.0 t).congruent, λ t. d.1 (record { left = F; right = G; congruent = t })),
      either (either c.in_ok-value.ensures.1 sizes) (rw e at c.in_ok-solution.ensures.1),
    )
