use Rattle.cap_reduce.proofs.NullBasis.{one_null_basis}
use Rattle.cap_reduce.proofs.laws.law_one_null_basis.Goals as goal

pub returns : goal.returns
returns c = one_null_basis
