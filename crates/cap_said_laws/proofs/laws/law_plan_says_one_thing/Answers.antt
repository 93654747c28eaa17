use Rattle.cap_said_laws.proofs.Plans.{plan_says_one_thing}
use Rattle.cap_said_laws.proofs.laws.law_plan_says_one_thing.Goals as goal

pub returns : goal.returns
returns c = plan_says_one_thing
