use Rattle.cap_rules.proofs.TypedRules.{costs_are}
use Rattle.cap_rules.proofs.cost_table.costs.Goals as goal

pub returns-clause-costs : goal.returns-clause-costs
returns-clause-costs c = costs_are
