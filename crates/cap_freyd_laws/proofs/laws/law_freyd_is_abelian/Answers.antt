use Rattle.cap_freyd_laws.proofs.Abelian.{freyd-abelian}
use Rattle.cap_freyd_laws.proofs.laws.law_freyd_is_abelian.Goals as goal

pub returns : goal.returns
returns g c = λ k.
    freyd-abelian (g.met.C.Cat.linear k) (g.C.Additive.zero_object_of k) (g.met.C.Additive.zero_object_is k).object
    (record { is = g.met.C.Additive.sum_is k }) (record { is = g.met.C.WeakKernels.weak_kernel_is k })
