use Rattle.std.proofs.Common.{◌≡◌, true, ◌+◌, drop}
use Rattle.cap_lines.specs.Marks.{position}
use Rattle.cap_lines.proofs.lines.position.Given as goal

abbrev pub invariant-symbols : goal.invariant-symbols
invariant-symbols l = l.i + position l.begins (drop l.i l.symbols) l.left ≡ position true l.symbols l.number
