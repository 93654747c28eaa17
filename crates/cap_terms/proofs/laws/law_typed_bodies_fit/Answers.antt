use Rattle.cap_terms.proofs.Fit.{never_mismatches}
use Rattle.cap_terms.proofs.laws.law_typed_bodies_fit.Goals as goal

pub returns : goal.returns
returns g c = λ S head body. never_mismatches S head body
