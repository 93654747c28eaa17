use Rattle.std.proofs.Common.{inr}
use Rattle.cap_freyd_offer.specs.Members.{freyd_abelian}
use Rattle.cap_freyd_offer.proofs.laws.law_offer_rules_hold.Goals as goal

pub returns : goal.returns
returns c = λ T V. inr (freyd_abelian T V)
