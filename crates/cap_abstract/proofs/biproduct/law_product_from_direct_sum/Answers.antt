use Rattle.cap_laws.proofs.Textbook.{product-from-direct-sum}
use Rattle.cap_laws.proofs.Opposite.{opposite-linear}
use Rattle.cap_abstract.proofs.biproduct.law_product_from_direct_sum.Goals as goal

pub returns-clause-law : goal.returns-clause-law
returns-clause-law g c = λ k. let L = g.met.C.Cat.linear k in record { law = product-from-direct-sum L }

pub returns-clause-dual : goal.returns-clause-dual
returns-clause-dual g c = λ k. let L = opposite-linear (g.met.C.Cat.linear k) in record { law = product-from-direct-sum L }
