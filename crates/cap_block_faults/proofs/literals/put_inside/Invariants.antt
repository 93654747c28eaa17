use Rattle.std.proofs.Common.{◌≡◌, ◌++◌, take}
use Rattle.cap_block_faults.specs.Marks.{each}
use Rattle.cap_block_faults.specs.Literals.{row_item}
use Rattle.cap_block_faults.proofs.literals.put_inside.Given as goal

abbrev pub invariant-rows : goal.invariant-rows
invariant-rows l = l.marks.items ≡ l.fn.marks.items ++ each (row_item l.coeffs) (take l.i l.rows)
