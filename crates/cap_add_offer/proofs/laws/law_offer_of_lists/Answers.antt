use Rattle.cap_add_offer.specs.Members.{list_kind, list_weights, list_prime}
use Rattle.cap_add_offer.proofs.laws.law_offer_of_lists.Goals as goal

pub returns : goal.returns
returns c = record { kind = list_kind; weights = list_weights; prime = list_prime }
