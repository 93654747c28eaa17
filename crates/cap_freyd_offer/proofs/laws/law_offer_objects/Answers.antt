use Rattle.cap_freyd_offer.proofs.Data.{objects_are}
use Rattle.cap_freyd_offer.proofs.laws.law_offer_objects.Goals as goal

pub returns : goal.returns
returns c = objects_are
