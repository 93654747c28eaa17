use Rattle.cap_vec_laws.proofs.Kernels.{null_basis_kernel}
use Rattle.cap_vec_laws.proofs.laws.law_null_basis_is_kernel.Goals as goal

pub returns : goal.returns
returns c = null_basis_kernel
