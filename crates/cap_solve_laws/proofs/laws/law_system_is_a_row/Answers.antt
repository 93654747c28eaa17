use Rattle.cap_solve_laws.proofs.Solutions.{row-from-solution, solution-of-row, obstruction-refutes}
use Rattle.cap_solve_laws.proofs.laws.law_system_is_a_row.Goals as goal

pub returns : goal.returns
returns g c = λ k.
    let L = g.met.C.Cat.linear k in
    let S = g.met.C.HomFp.is_hom k in
    record { row = λ s I xs T. row-from-solution L S s I xs T; solved = λ s I x R w. solution-of-row L S s I x R w; refuted = λ s I y o xs T. obstruction-refutes L S s I y o xs T }
