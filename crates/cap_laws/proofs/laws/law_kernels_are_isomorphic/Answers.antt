use Rattle.cap_laws.proofs.Unique.{kernels-iso}
use Rattle.cap_laws.proofs.laws.law_kernels_are_isomorphic.Goals as goal

pub returns : goal.returns
returns g c = λ k. record { law = kernels-iso (g.met.C.Cat.linear k) }
