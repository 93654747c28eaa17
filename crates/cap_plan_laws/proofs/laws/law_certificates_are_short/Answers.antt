use Rattle.cap_plan_laws.proofs.Accepted.{certificates_few_bytes}
use Rattle.cap_plan_laws.proofs.laws.law_certificates_are_short.Goals as goal

pub returns : goal.returns
returns c = certificates_few_bytes
