use Rattle.cap_cert_laws.proofs.Planned.{plan_writable}
use Rattle.cap_cert_laws.proofs.laws.law_plans_are_writable.Goals as goal

pub returns : goal.returns
returns c = plan_writable
