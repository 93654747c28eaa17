use Rattle.std.proofs.Common.{sym, subst}
use Rattle.cap_ops.specs.Derivations.{AreCosts}
use Rattle.cap_judge.specs.Judged.{the_costs}
use Rattle.cap_judge.proofs.RuleCosts.{costs_are}
use Rattle.cap_judge.proofs.judging.rule_costs.Goals as goal

pub returns-clause-value : goal.returns-clause-value
unfolding the_costs
returns-clause-value c = c.costs.ensures.table

pub returns-clause-costs : goal.returns-clause-costs
unfolding the_costs
returns-clause-costs c = subst AreCosts (sym c.costs.ensures.table) costs_are
