use Rattle.std.proofs.Common.{◌≡◌, ◌++◌, take}
use Rattle.cap_block_faults.specs.Marks.{each}
use Rattle.cap_block_faults.specs.Blocks.{line_item}
use Rattle.cap_faults.proofs.blocks.put_lines.Given as goal

abbrev pub invariant-lines : goal.invariant-lines
invariant-lines l = l.marks.items ≡ l.fn.marks.items ++ each (line_item l.block) (take l.i l.block.lines)
