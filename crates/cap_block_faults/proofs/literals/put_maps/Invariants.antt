use Rattle.std.proofs.Common.{◌≡◌, ◌++◌, take}
use Rattle.cap_block_faults.specs.Marks.{each}
use Rattle.cap_block_faults.specs.Literals.{map_item}
use Rattle.cap_block_faults.proofs.literals.put_maps.Given as goal

abbrev pub invariant-maps : goal.invariant-maps
invariant-maps l = l.marks.items ≡ l.fn.marks.items ++ each (map_item l.lines l.table l.maps) (take l.i l.maps)
