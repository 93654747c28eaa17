use Rattle.cap_abstract.proofs.Biproducts.{pair-from-lift, lift-from-pair}
use Rattle.cap_laws.proofs.Opposite.{opposite-linear}
use Rattle.cap_abstract.proofs.biproduct.law_pair_by_lift.Goals as goal

pub returns-clause-law : goal.returns-clause-law
returns-clause-law g c = λ k. let L = g.met.C.Cat.linear k in record { law = λ D P Q U V W. (pair-from-lift L D P Q U V W, lift-from-pair L D P Q U V W) }

pub returns-clause-dual : goal.returns-clause-dual
returns-clause-dual g c = λ k. let L = opposite-linear (g.met.C.Cat.linear k) in record { law = λ D P Q U V W. (pair-from-lift L D P Q U V W, lift-from-pair L D P Q U V W) }
