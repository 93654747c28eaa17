use Rattle.cap_freyd_laws.proofs.Kernel.{freyd-kernel}
use Rattle.cap_freyd_laws.proofs.laws.law_freyd_kernels.Goals as goal

pub returns : goal.returns
returns g c = λ k. record {
  law = λ F. freyd-kernel (g.met.C.Cat.linear k) (record { is = g.met.C.Additive.sum_is k }) (record { is = g.met.C.WeakKernels.weak_kernel_is k }) F;
}
