use Rattle.cap_plan_laws.proofs.Accepted.{certificates_accepted}
use Rattle.cap_plan_laws.proofs.laws.law_certificates_are_accepted.Goals as goal

pub returns : goal.returns
returns c = certificates_accepted
