use Rattle.cap_ops.proofs.DerivationsPlans.{plan_below}
use Rattle.cap_ops.proofs.derivations.law_bounds_of_plan.Goals as goal

pub returns : goal.returns
returns c = plan_below
