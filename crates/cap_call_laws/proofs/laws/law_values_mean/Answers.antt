use Rattle.cap_call_laws.proofs.Values.{values_mean}
use Rattle.cap_call_laws.proofs.laws.law_values_mean.Goals as goal

pub returns : goal.returns
returns g c = λ offer. values_mean (g.C.Offer.offered offer) (g.met.C.Offer.linear offer) (g.met.C.Offer.plain_ends offer) (g.met.C.Offer.prims_mean offer)
