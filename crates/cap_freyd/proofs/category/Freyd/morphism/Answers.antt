use Rattle.std.proofs.Common.{◌≡◌, sym, ◌∙◌, subst}
use Rattle.cap_laws.specs.Systems.{IsSystem, AnswersSystem}
use Rattle.cap_freyd_laws.specs.Canonical.{morphism_system}
use Rattle.cap_freyd_laws.proofs.Lifts.{morphism-is-system, morphism-exactly, solved-decides}
use Rattle.cap_freyd.proofs.Options.{nothing-there}
use Rattle.cap_freyd.proofs.Sizes.{either}
use Rattle.cap_freyd.proofs.category.Freyd.morphism.Goals as goal

pub solve_system-requires : goal.solve_system-requires
solve_system-requires g c =
    let L = g.met.P.Cat.linear c.args.self.now.below in
    let K = g.P.Cat.category c.args.self.now.below in
    let e : c.in_ok-system.system ≡ morphism_system K c.args.a.now.relation c.args.b.now.relation c.args.alpha = rw c.in_ok-value.ensures.0 at (rw c.source-y.ensures at (rw c.source-x.ensures at c.in_ok-system.ensures.0)) in
    subst (λ s. IsSystem K s) (sym e) (morphism-is-system L c.requires.left c.requires.right c.requires.arrow)

pub returns-then-is_some : goal.returns-then-is_some
returns-then-is_some g c =
    let L = g.met.P.Cat.linear c.args.self.now.below in
    let K = g.P.Cat.category c.args.self.now.below in
    let S = morphism_system K c.args.a.now.relation c.args.b.now.relation c.args.alpha in
    let e : c.in_ok-system.system ≡ S = rw c.in_ok-value.ensures.0 at (rw c.source-y.ensures at (rw c.source-x.ensures at c.in_ok-system.ensures.0)) in
    let r : c.in_ok-solution.solution ≡ g.P.Lifts.solution_of c.args.self.now.below S = rw e at c.in_ok-solution.ensures.0 in
    let a : AnswersSystem K S c.in_ok-solution.solution = subst (λ x. AnswersSystem K S x) (sym r) (g.met.P.Lifts.solves c.args.self.now.below S (morphism-is-system L c.requires.left c.requires.right c.requires.arrow)) in
    let d = solved-decides L (morphism-exactly L c.requires.left c.requires.right c.requires.arrow) c.in_ok-solution.solution a in
    let sizes = either (either c.in_ok-value.ensures.1 (rw c.source-x.ensures at c.in_ok-system.ensures.1)) (rw e at c.in_ok-solution.ensures.1) in
    (c.in_ok-between.ensures, (d.0 (sym c.is_some.ensures ∙ c.if-is_some.true), sizes))

pub returns : goal.returns
returns g c =
    let L = g.met.P.Cat.linear c.args.self.now.below in
    let K = g.P.Cat.category c.args.self.now.below in
    let S = morphism_system K c.args.a.now.relation c.args.b.now.relation c.args.alpha in
    let e : c.in_ok-system.system ≡ S = rw c.in_ok-value.ensures.0 at (rw c.source-y.ensures at (rw c.source-x.ensures at c.in_ok-system.ensures.0)) in
    let r : c.in_ok-solution.solution ≡ g.P.Lifts.solution_of c.args.self.now.below S = rw e at c.in_ok-solution.ensures.0 in
    let a : AnswersSystem K S c.in_ok-solution.solution = subst (λ x. AnswersSystem K S x) (sym r) (g.met.P.Lifts.solves c.args.self.now.below S (morphism-is-system L c.requires.left c.requires.right c.requires.arrow)) in
    let d = solved-decides L (morphism-exactly L c.requires.left c.requires.right c.requires.arrow) c.in_ok-solution.solution a in
    let sizes = either (either c.in_ok-value.ensures.1 (rw c.source-x.ensures at c.in_ok-system.ensures.1)) (rw e at c.in_ok-solution.ensures.1) in
    (λ m. nothing-there (sym c.is_some.ensures ∙ c.if-is_some.false) (d.1 m), sizes)
