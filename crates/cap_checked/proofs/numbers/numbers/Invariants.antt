use Rattle.std.proofs.Common.{◌≡◌, map, take}
use Rattle.cap_checked.specs.Checked.{number}
use Rattle.cap_checked.proofs.numbers.numbers.Given as goal

abbrev pub invariant-names : goal.invariant-names
invariant-names l = l.numbers.items ≡ map (number l.names) (take l.name-index l.path)
