use Rattle.cap_freyd_laws.proofs.Cokernel.{freyd-cokernel}
use Rattle.cap_freyd_laws.proofs.laws.law_freyd_cokernels.Goals as goal

pub returns : goal.returns
returns g c = λ k. record { law = λ F. freyd-cokernel (g.met.C.Cat.linear k) (record { is = g.met.C.Additive.sum_is k }) F }
