use Rattle.cap_laws.proofs.Textbook.{mono-from-weak-kernel, weak-kernel-of-mono}
use Rattle.cap_laws.proofs.Opposite.{opposite-linear}
use Rattle.cap_abstract.proofs.monos.law_mono_by_weak_kernel.Goals as goal

pub returns-clause-law : goal.returns-clause-law
returns-clause-law g c = λ k. let L = g.met.C.Cat.linear k in record { law = λ p K. (mono-from-weak-kernel L p K, weak-kernel-of-mono L K) }

pub returns-clause-dual : goal.returns-clause-dual
returns-clause-dual g c = λ k. let L = opposite-linear (g.met.C.Cat.linear k) in record { law = λ p K. (mono-from-weak-kernel L p K, weak-kernel-of-mono L K) }
