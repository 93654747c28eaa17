use Rattle.std.proofs.Common.{◌≡◌, ◌++◌, take}
use Rattle.cap_block_faults.specs.Marks.{each}
use Rattle.cap_block_faults.specs.Literals.{entry_item}
use Rattle.cap_block_faults.proofs.literals.put_row.Given as goal

abbrev pub invariant-entries : goal.invariant-entries
invariant-entries l = l.marks.items ≡ l.fn.marks.items ++ each (entry_item l.coeffs) (take l.entry-index l.entries)
