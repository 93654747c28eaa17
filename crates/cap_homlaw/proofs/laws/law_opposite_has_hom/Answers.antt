use Rattle.cap_homlaw.proofs.TwoSided.{opposite-is}
use Rattle.cap_homlaw.proofs.laws.law_opposite_has_hom.Goals as goal

pub returns : goal.returns
returns g c = λ k. opposite-is (g.met.C.HomFp.is_hom k)
