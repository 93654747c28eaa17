use Rattle.cap_reduce.proofs.Decided.{solved_or_obstructed}
use Rattle.cap_reduce.proofs.laws.law_solved_or_obstructed.Goals as goal

pub returns : goal.returns
returns c = solved_or_obstructed
