-- What the offers owe: their categories are linear, their morphisms have the ends that they name, and each primitive's answer has its operation's meaning and is one, with few new objects.
use Rattle.cap_laws.specs.Linear.{IsLinear}
use Rattle.cap_ops.specs.Told.{HasPlainEnds}
use Rattle.cap_ops.specs.Primitives.{PrimsMean, HasOneOutcome, HasFewObjects}
use Rattle.cap_vec_offer.specs.Members.{offer_plain, offer_linear, offer_means, offer_one, offer_few}
use Rattle.cap_offer.specs.Labels.{Label, vec, any_offer}

pub any_plain : (l : Label) → HasPlainEnds (any_offer l).category
any_plain (vec p) = offer_plain p

pub any_linear : (l : Label) → IsLinear (any_offer l).category
any_linear (vec p) = offer_linear p

pub any_means : (l : Label) → PrimsMean (any_offer l)
any_means (vec p) = offer_means p

pub any_one : (l : Label) → HasOneOutcome (any_offer l)
any_one (vec p) = offer_one p

pub any_few : (l : Label) → HasFewObjects (any_offer l)
any_few (vec p) = offer_few p
