use Rattle.cap_vec_offer.specs.Members.{offer_kind, offer_weights, offer_prime}
use Rattle.cap_vec_offer.proofs.laws.law_offer_of_matrices.Goals as goal

pub returns : goal.returns
returns c = record { kind = offer_kind; weights = offer_weights; prime = offer_prime }
