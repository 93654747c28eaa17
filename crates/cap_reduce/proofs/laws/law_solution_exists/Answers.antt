use Rattle.cap_reduce.proofs.Solutions.{solution_exists}
use Rattle.cap_reduce.proofs.laws.law_solution_exists.Goals as goal

pub returns : goal.returns
returns c = solution_exists
