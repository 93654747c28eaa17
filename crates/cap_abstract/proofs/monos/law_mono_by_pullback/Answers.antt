use Rattle.cap_abstract.proofs.Cancelling.{mono-from-pullback, pullback-of-mono}
use Rattle.cap_laws.proofs.Opposite.{opposite-linear}
use Rattle.cap_abstract.proofs.monos.law_mono_by_pullback.Goals as goal

pub returns-clause-law : goal.returns-clause-law
returns-clause-law g c = λ k. let L = g.met.C.Cat.linear k in record { law = λ F P. (mono-from-pullback L F P, pullback-of-mono L P) }

pub returns-clause-dual : goal.returns-clause-dual
returns-clause-dual g c = λ k. let L = opposite-linear (g.met.C.Cat.linear k) in record { law = λ F P. (mono-from-pullback L F P, pullback-of-mono L P) }
