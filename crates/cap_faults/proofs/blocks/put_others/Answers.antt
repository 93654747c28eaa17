use Rattle.cap_faults.proofs.FirstOfBlock.{whole_block, broken_block}
use Rattle.cap_faults.proofs.blocks.put_others.Goals as goal

pub returns-then-not-whole : goal.returns-then-not-whole
returns-then-not-whole c = broken_block c.args.block.now c.args.marks.now.items c.put_lines.new.marks.items (rw c.if-not-whole.true at c.in_ok-whole.ensures)

pub returns : goal.returns
returns c = whole_block c.args.block.now c.args.marks.now.items c.put_lines.new.marks.items c.put_end.new.marks.items (rw c.if-not-whole.false at c.in_ok-whole.ensures) c.in_ok-put_end.ensures
