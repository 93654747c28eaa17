use Rattle.cap_freyd_offer.proofs.Canonical.{canonical}
use Rattle.cap_freyd_offer.proofs.laws.law_offer_canonical.Goals as goal

pub returns : goal.returns
returns c = canonical
