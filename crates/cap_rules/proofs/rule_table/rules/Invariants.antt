use Rattle.std.proofs.Common.{◌≡◌, take}
use Rattle.cap_rules.specs.Codes.{joined}
use Rattle.cap_rules.proofs.rule_table.rules.Given as goal

abbrev pub invariant-loop-i : goal.invariant-loop-i
invariant-loop-i l = l.rules.items ≡ take l.i (joined l.costs l.code-items)
