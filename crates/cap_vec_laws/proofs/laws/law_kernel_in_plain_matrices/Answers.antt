use Rattle.cap_vec_laws.proofs.Kernels.{kernel_in_plain_matrices}
use Rattle.cap_vec_laws.proofs.laws.law_kernel_in_plain_matrices.Goals as goal

pub returns : goal.returns
returns c = kernel_in_plain_matrices
