use Rattle.cap_abstract.proofs.Biproducts.{pair-as-lift, lift-as-pair}
use Rattle.cap_laws.proofs.Opposite.{opposite-linear}
use Rattle.cap_abstract.proofs.biproduct.law_lift_by_pair.Goals as goal

pub returns-clause-law : goal.returns-clause-law
returns-clause-law g c = λ k. let L = g.met.C.Cat.linear k in record { law = λ F U. (pair-as-lift L F U, lift-as-pair L F U) }

pub returns-clause-dual : goal.returns-clause-dual
returns-clause-dual g c = λ k. let L = opposite-linear (g.met.C.Cat.linear k) in record { law = λ F U. (pair-as-lift L F U, lift-as-pair L F U) }
