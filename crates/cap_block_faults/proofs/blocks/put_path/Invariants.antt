use Rattle.std.proofs.Common.{◌≡◌, ◌++◌, take}
use Rattle.cap_block_faults.specs.Marks.{each}
use Rattle.cap_block_faults.specs.Blocks.{path_item}
use Rattle.cap_block_faults.proofs.blocks.put_path.Given as goal

abbrev pub invariant-names : goal.invariant-names
invariant-names l = l.marks.items ≡ l.fn.marks.items ++ each (path_item l.lines l.star l.whole) (take l.i l.path)
