use Rattle.cap_offer.proofs.Offers.{goes_by_label}
use Rattle.cap_offer.proofs.laws.law_any_of_label.Goals as goal

pub returns : goal.returns
returns c = goes_by_label
