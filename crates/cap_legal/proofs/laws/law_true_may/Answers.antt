use Rattle.cap_legal.proofs.Asking.{true-may}
use Rattle.cap_legal.proofs.laws.law_true_may.Goals as goal

pub returns : goal.returns
returns g c = λ offer rules. true-may (g.C.Offer.offered offer) (g.met.C.Offer.few_objects offer) rules
