use Rattle.cap_abstract.proofs.Images.{coimage-from-image}
use Rattle.cap_laws.proofs.Opposite.{opposite-linear, opposite-abelian}
use Rattle.cap_abstract.proofs.image.law_coimage_from_image.Goals as goal

pub returns-clause-law : goal.returns-clause-law
returns-clause-law g c = λ k. let L = g.met.C.Cat.linear k in let A = g.met.C.Abelian.abelian k in record { law = coimage-from-image L A }

pub returns-clause-dual : goal.returns-clause-dual
returns-clause-dual g c = λ k. let L = opposite-linear (g.met.C.Cat.linear k) in let A = opposite-abelian (g.met.C.Abelian.abelian k) in record { law = coimage-from-image L A }
