use Rattle.std.proofs.Common.{◌≡◌, flat_map, take}
use Rattle.cap_checked.specs.Checked.{own_name}
use Rattle.cap_checked.proofs.numbers.basis.Given as goal

abbrev pub invariant-lines : goal.invariant-lines
invariant-lines l = l.names.items ≡ flat_map own_name (take l.line-index l.lines)
