use Rattle.std.proofs.Common.{◌≡◌, ◌++◌, take}
use Rattle.cap_block_faults.specs.Marks.{each}
use Rattle.cap_block_faults.specs.Blocks.{term_item, no_limit}
use Rattle.cap_block_faults.proofs.blocks.put_combo_terms.Given as goal

abbrev pub invariant-terms : goal.invariant-terms
invariant-terms l = l.marks.items ≡ l.fn.marks.items ++ each (term_item l.lines no_limit) (take l.i l.terms)
