use Rattle.cap_cert_laws.proofs.Planned.{plans_accepted}
use Rattle.cap_cert_laws.proofs.laws.law_plans_are_accepted.Goals as goal

pub returns : goal.returns
returns c = plans_accepted
