use Rattle.std.proofs.Common.{◌≡◌, ◌++◌, take}
use Rattle.cap_block_faults.specs.Marks.{each}
use Rattle.cap_block_faults.specs.Literals.{dim_item}
use Rattle.cap_block_faults.proofs.literals.put_all_dims.Given as goal

abbrev pub invariant-dims : goal.invariant-dims
invariant-dims l = l.marks.items ≡ l.fn.marks.items ++ each (dim_item l.objects) (take l.i l.dims)
