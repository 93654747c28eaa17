use Rattle.cap_solve_laws.proofs.Solutions.{solution_of, solution-answers, solution-canonical}
use Rattle.cap_solve_laws.proofs.laws.law_systems_are_answered.Goals as goal

pub returns : goal.returns
returns g c = λ k.
    let L = g.met.C.Cat.linear k in
    let S = g.met.C.HomFp.is_hom k in
    record { solution = solution_of (g.C.Cat.category k) (g.C.HomFp.hom k); canonical = λ s I. solution-canonical L S s I; solves = λ s I. solution-answers L S s I }
