use Rattle.cap_reduce.proofs.Solutions.{one_solution}
use Rattle.cap_reduce.proofs.laws.law_one_solution.Goals as goal

pub returns : goal.returns
returns c = one_solution
