use Rattle.cap_freyd_offer.proofs.Data.{morphisms_are}
use Rattle.cap_freyd_offer.proofs.laws.law_offer_morphisms.Goals as goal

pub returns : goal.returns
returns c = morphisms_are
