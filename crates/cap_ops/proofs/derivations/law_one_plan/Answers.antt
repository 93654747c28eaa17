use Rattle.cap_ops.proofs.DerivationsPlans.{same_plan}
use Rattle.cap_ops.proofs.derivations.law_one_plan.Goals as goal

pub returns : goal.returns
returns c = same_plan
