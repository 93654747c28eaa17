use Rattle.std.proofs.Common.{◌≡◌, drop}
use Rattle.cap_ops.specs.Derivations.{first_at, ways_by_rule}
use Rattle.cap_plan.proofs.choices.first_rule.Given as goal

abbrev pub invariant-loop-rule : goal.invariant-loop-rule
invariant-loop-rule l = first_at l.bound (ways_by_rule l.kind l.bounds l.op (drop l.rule-index l.costs)) ≡ first_at l.bound (ways_by_rule l.kind l.bounds l.op l.costs)
