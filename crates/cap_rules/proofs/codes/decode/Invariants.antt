use Rattle.std.proofs.Common.{◌≡◌, take}
use Rattle.std.specs.Prelude.{map}
use Rattle.cap_rules.specs.Codes.{step_of}
use Rattle.cap_rules.proofs.codes.decode.Given as goal

abbrev pub invariant-loop-next : goal.invariant-loop-next
invariant-loop-next l = l.steps.items ≡ map step_of (take l.next-index l.next-items)
