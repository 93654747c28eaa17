use Rattle.cap_said_laws.proofs.Checks.{check_says_one_thing}
use Rattle.cap_said_laws.proofs.laws.law_check_says_one_thing.Goals as goal

pub returns : goal.returns
returns c = check_says_one_thing
