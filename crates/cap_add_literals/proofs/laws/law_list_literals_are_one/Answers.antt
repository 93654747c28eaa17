use Rattle.cap_add_literals.proofs.Given.{literals_are_one}
use Rattle.cap_add_literals.proofs.laws.law_list_literals_are_one.Goals as goal

pub returns : goal.returns
returns c = literals_are_one
