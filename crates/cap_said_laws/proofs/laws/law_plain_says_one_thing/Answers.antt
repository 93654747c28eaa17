use Rattle.cap_said_laws.proofs.Plain.{plain_says_one_thing}
use Rattle.cap_said_laws.proofs.laws.law_plain_says_one_thing.Goals as goal

pub returns : goal.returns
returns c = plain_says_one_thing
