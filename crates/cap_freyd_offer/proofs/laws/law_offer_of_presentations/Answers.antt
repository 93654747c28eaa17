use Rattle.cap_freyd_offer.specs.Members.{freyd_kind, freyd_weights, freyd_prime}
use Rattle.cap_freyd_offer.proofs.laws.law_offer_of_presentations.Goals as goal

pub returns : goal.returns
returns c = record { kind = freyd_kind; weights = freyd_weights; prime = freyd_prime }
