use Rattle.cap_vec_laws.proofs.Cokernels.{null_basis_cokernel}
use Rattle.cap_vec_laws.proofs.laws.law_null_basis_is_cokernel.Goals as goal

pub returns : goal.returns
returns c = null_basis_cokernel
