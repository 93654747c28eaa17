use Rattle.cap_reduce.proofs.OneReduced.{one_reduced_matrix}
use Rattle.cap_reduce.proofs.laws.law_one_reduced_matrix.Goals as goal

pub returns : goal.returns
returns c = one_reduced_matrix
