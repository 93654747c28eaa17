use Rattle.cap_ops.proofs.DerivationsPlans.{plan_lines}
use Rattle.cap_ops.proofs.derivations.law_lines_of_plan.Goals as goal

pub returns : goal.returns
returns c = plan_lines
