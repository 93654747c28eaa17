use Rattle.std.proofs.Common.{inl}
use Rattle.cap_add_offer.specs.Members.{list_kind}
use Rattle.cap_add_offer.proofs.laws.law_offer_rules_hold.Goals as goal

pub returns : goal.returns
returns c = λ T. inl (list_kind T)
