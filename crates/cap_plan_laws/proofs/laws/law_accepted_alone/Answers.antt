use Rattle.cap_plan_laws.proofs.Accepted.{accepted_alone}
use Rattle.cap_plan_laws.proofs.laws.law_accepted_alone.Goals as goal

pub returns : goal.returns
returns c = accepted_alone
