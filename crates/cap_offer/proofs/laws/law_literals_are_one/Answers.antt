use Rattle.cap_offer.proofs.Literals.{literals_are_one}
use Rattle.cap_offer.proofs.laws.law_literals_are_one.Goals as goal

pub returns : goal.returns
returns c = literals_are_one
