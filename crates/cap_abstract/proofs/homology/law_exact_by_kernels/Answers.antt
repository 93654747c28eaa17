use Rattle.cap_laws.proofs.Textbook.{weak-from-kernel}
use Rattle.cap_laws.proofs.Opposite.{opposite-linear}
use Rattle.cap_abstract.proofs.Exactness.{exact-from-weak-kernels, middle-of-exact}
use Rattle.cap_abstract.proofs.homology.law_exact_by_kernels.Goals as goal

pub returns : goal.returns
returns g c = λ k. let L = g.met.C.Cat.linear k in record { law = λ F G K P z. (exact-from-weak-kernels L F G (weak-from-kernel L K) (weak-from-kernel (opposite-linear L) P) z, middle-of-exact L (weak-from-kernel L K) (weak-from-kernel (opposite-linear L) P)) }
