use Rattle.cap_run.proofs.TruePlans.{plans-are-true}
use Rattle.cap_run.proofs.laws.law_plans_are_true.Goals as goal

pub returns : goal.returns
returns g c = λ offer. plans-are-true (g.C.Offer.offered offer)
