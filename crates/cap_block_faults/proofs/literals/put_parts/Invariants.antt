use Rattle.std.proofs.Common.{◌≡◌, ◌++◌, take}
use Rattle.cap_block_faults.specs.Marks.{each}
use Rattle.cap_block_faults.specs.Literals.{part_item}
use Rattle.cap_block_faults.proofs.literals.put_parts.Given as goal

abbrev pub invariant-names : goal.invariant-names
invariant-names l = l.marks.items ≡ l.fn.marks.items ++ each (part_item l.objects) (take l.i l.names)
