use Rattle.cap_abstract.proofs.Exactness.{homology-from-kernel, zero-from-part, part-from-zero}
use Rattle.cap_abstract.proofs.homology.law_homology_from_kernel.Goals as goal

pub returns : goal.returns
returns g c = λ k. let L = g.met.C.Cat.linear k in record { law = homology-from-kernel L; exists = λ F G K. (λ s. zero-from-part L G K s.arrow s.holds, part-from-zero L F K); zero = λ G H. zero-from-part L G H.kernel H.arrow H.is }
