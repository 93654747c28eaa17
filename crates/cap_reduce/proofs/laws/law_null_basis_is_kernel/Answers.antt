use Rattle.cap_reduce.proofs.NullBasis.{null_basis_is_kernel}
use Rattle.cap_reduce.proofs.laws.law_null_basis_is_kernel.Goals as goal

pub returns : goal.returns
returns c = null_basis_is_kernel
