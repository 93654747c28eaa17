use Rattle.cap_offer.proofs.Offers.{rules_hold}
use Rattle.cap_offer.proofs.laws.law_any_rules_hold.Goals as goal

pub returns : goal.returns
returns c = rules_hold
