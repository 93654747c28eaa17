use Rattle.cap_homlaw.proofs.Images.{back-linear}
use Rattle.cap_homlaw.proofs.laws.law_back_is_linear.Goals as goal

pub returns : goal.returns
returns g c = λ k. back-linear (g.met.C.Cat.linear k) (g.met.C.HomFp.is_hom k)
