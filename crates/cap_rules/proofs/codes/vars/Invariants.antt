use Rattle.std.proofs.Common.{◌≡◌, take}
use Rattle.cap_rules.specs.Codes.{variables}
use Rattle.cap_rules.proofs.codes.vars.Given as goal

abbrev pub invariant-loop-number : goal.invariant-loop-number
invariant-loop-number l = l.list.items ≡ variables (take l.number-index l.numbers)
