use Rattle.std.proofs.Common.{◌≡◌, ◌++◌, take}
use Rattle.cap_block_faults.specs.Marks.{each}
use Rattle.cap_block_faults.specs.Literals.{matrix_item}
use Rattle.cap_block_faults.proofs.literals.put_matrices.Given as goal

abbrev pub invariant-matrices : goal.invariant-matrices
invariant-matrices l = l.marks.items ≡ l.fn.marks.items ++ each (matrix_item l.objects) (take l.i l.matrices)
