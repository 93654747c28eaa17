use Rattle.std.proofs.Common.{refl}
use Rattle.cap_ops.proofs.DerivationsCosts.{costs_pass}
use Rattle.cap_planning_tests.specs.declared.cert.costs.TheConstants.{COSTS}
use Rattle.cap_planning_tests.proofs.cert.costs.costs.Goals as goal

pub returns : goal.returns
returns c = (costs_pass COSTS refl refl).each
