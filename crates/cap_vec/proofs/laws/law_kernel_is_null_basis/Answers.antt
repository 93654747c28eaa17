use Rattle.cap_vec_laws.proofs.Members.{kernel_of-is}
use Rattle.cap_vec.proofs.laws.law_kernel_is_null_basis.Goals as goal

pub returns : goal.returns
returns c = kernel_of-is
