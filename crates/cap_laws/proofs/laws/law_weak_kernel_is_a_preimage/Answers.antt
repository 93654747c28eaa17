use Rattle.cap_laws.proofs.Blocks.{preimage-is}
use Rattle.cap_laws.proofs.laws.law_weak_kernel_is_a_preimage.Goals as goal

pub returns : goal.returns
returns g c = λ k. record { law = preimage-is (g.met.C.Cat.linear k) }
