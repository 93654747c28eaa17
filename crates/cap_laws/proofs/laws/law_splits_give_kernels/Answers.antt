use Rattle.cap_laws.proofs.Split.{half-abelian, half-abelian-opposite}
use Rattle.cap_laws.proofs.laws.law_splits_give_kernels.Goals as goal

pub returns : goal.returns
returns g c = λ k. let L = g.met.C.Cat.linear k in record { kernels = half-abelian L; cokernels = half-abelian-opposite L }
