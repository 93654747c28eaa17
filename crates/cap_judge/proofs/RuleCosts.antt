-- The costs of the 59 rules are costs.
use Rattle.std.proofs.Common.{refl}
use Rattle.cap_ops.specs.Derivations.{AreCosts}
use Rattle.cap_ops.proofs.DerivationsCosts.{costs_pass}
use Rattle.cap_judge.specs.Judged.{the_costs}

pub costs_are : AreCosts the_costs
unfolding the_costs
costs_are = costs_pass the_costs refl refl
