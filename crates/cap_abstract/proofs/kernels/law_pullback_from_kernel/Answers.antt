use Rattle.cap_laws.proofs.Textbook.{pullback-from-kernel}
use Rattle.cap_laws.proofs.Opposite.{opposite-linear}
use Rattle.cap_abstract.proofs.kernels.law_pullback_from_kernel.Goals as goal

pub returns-clause-law : goal.returns-clause-law
returns-clause-law g c = λ k. let L = g.met.C.Cat.linear k in record { law = pullback-from-kernel L }

pub returns-clause-dual : goal.returns-clause-dual
returns-clause-dual g c = λ k. let L = opposite-linear (g.met.C.Cat.linear k) in record { law = pullback-from-kernel L }
