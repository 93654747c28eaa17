use Rattle.std.proofs.Common.{◌≡◌, ◌++◌, take}
use Rattle.cap_block_faults.specs.Marks.{each}
use Rattle.cap_block_faults.specs.Literals.{coeff_item}
use Rattle.cap_block_faults.proofs.literals.put_coeffs.Given as goal

abbrev pub invariant-integers : goal.invariant-integers
invariant-integers l = l.marks.items ≡ l.fn.marks.items ++ each (coeff_item) (take l.integer-index l.integers)
