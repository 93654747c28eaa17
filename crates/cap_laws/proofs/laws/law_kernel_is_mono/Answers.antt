use Rattle.cap_laws.proofs.Textbook.{kernel-mono}
use Rattle.cap_laws.proofs.laws.law_kernel_is_mono.Goals as goal

pub returns : goal.returns
returns g c = λ k. record { law = kernel-mono (g.met.C.Cat.linear k) }
