use Rattle.cap_legal.proofs.Longer.{true-longer}
use Rattle.cap_legal.proofs.laws.law_true_stays.Goals as goal

pub returns : goal.returns
returns g c = λ offer rules. true-longer (g.C.Offer.offered offer) rules
