use Rattle.std.proofs.Common.{inr}
use Rattle.cap_vec_offer.specs.Members.{offer_abelian}
use Rattle.cap_vec_offer.proofs.laws.law_offer_rules_hold.Goals as goal

pub returns : goal.returns
returns c = λ p. inr (offer_abelian p)
