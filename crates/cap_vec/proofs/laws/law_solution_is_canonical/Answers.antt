use Rattle.cap_vec.proofs.Solutions.{solution-is-canonical}
use Rattle.cap_vec.proofs.laws.law_solution_is_canonical.Goals as goal

pub returns : goal.returns
returns c = solution-is-canonical
