use Rattle.std.proofs.Common.{◌≡◌, ◌++◌, take}
use Rattle.cap_block_faults.specs.Marks.{each}
use Rattle.cap_block_faults.specs.Blocks.{new_object}
use Rattle.cap_block_faults.proofs.blocks.put_objects.Given as goal

abbrev pub invariant-names : goal.invariant-names
invariant-names l = l.marks.items ≡ l.fn.marks.items ++ each (new_object l.names) (take l.i l.names)
