use Rattle.std.proofs.Common.{◌∙◌, sym, subst, Some}
use Rattle.cap_laws.specs.Systems.{AnswersSystem}
use Rattle.cap_freyd_univ.proofs.FirstUnknown.{answer-made, answer-none, values-there}
use Rattle.cap_freyd_univ.proofs.solved.first_unknown.Goals as goal

pub first_value-alpha-requires : goal.first_value-alpha-requires
first_value-alpha-requires g c =
    let K = g.P.Cat.category c.args.below.now in
    let r = sym c.in_ok-solution.ensures.0 ∙ c.in-Some.is in
    let a : AnswersSystem K c.args.system.now (Some c.in-Some.values) = subst (λ x. AnswersSystem K c.args.system.now x) r (g.met.P.Lifts.solves c.args.below.now c.args.system.now c.requires.system) in
    values-there a c.requires.unknowns

pub returns-in_default : goal.returns-in_default
returns-in_default g c =
    let r = sym c.in_ok-solution.ensures.0 ∙ c.in_default.is in
    (λ d. answer-none c.args.from.now c.args.to.now d (g.P.Lifts.solution_of c.args.below.now c.args.system.now) r, c.in_ok-solution.ensures.1)

pub returns : goal.returns
returns g c =
    let r = sym c.in_ok-solution.ensures.0 ∙ c.in-Some.is in
    (λ d. answer-made c.args.from.now c.args.to.now c.in_ok-morphism.morphism c.first_value-alpha.result d c.in-Some.values (g.P.Lifts.solution_of c.args.below.now c.args.system.now) c.in_ok-morphism.ensures (c.first_value-alpha.ensures d) r, c.in_ok-solution.ensures.1)
