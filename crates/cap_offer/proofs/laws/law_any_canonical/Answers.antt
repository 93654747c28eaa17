use Rattle.cap_offer.proofs.Offers.{are_canonical}
use Rattle.cap_offer.proofs.laws.law_any_canonical.Goals as goal

pub returns : goal.returns
returns c = are_canonical
