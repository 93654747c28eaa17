use Rattle.std.proofs.Common.{◌≡◌, drop}
use Rattle.cap_ops.specs.Derivations.{first_at, ways_by_rule}
use Rattle.cap_cert.proofs.lines.rule_at.Given as goal

abbrev pub invariant-rules : goal.invariant-rules
invariant-rules l = first_at l.weight (ways_by_rule l.kind l.printed l.place (drop l.rule-index l.costs)) ≡ first_at l.weight (ways_by_rule l.kind l.printed l.place l.costs)
