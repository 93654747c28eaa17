use Rattle.std.proofs.Common.{◌≡◌, ◌++◌, ◌+◌, ◌<◌, length, take, get_or, sym, ap, ◌∙◌, append_assoc, arith}
use Rattle.std.specs.Prelude.{is_some}
use Rattle.cap_block_faults.specs.Marks.{each}
use Rattle.cap_block_faults.specs.Blocks.{line_item}
use Rattle.cap_block_faults.proofs.Each.{each_more, each-split}
use Rattle.cap_faults.proofs.FirstOfBlock.{any_range}
use Rattle.cap_faults.proofs.blocks.put_lines.Goals as goal

pub lines-preserved : goal.lines-preserved
lines-preserved c =
    let lt : c.lines.i < length c.args.block.now.lines = grind (arith, c.lines-test.true, c.as_slice-lines.ensures) in
    let e : c.index-lines-i.result ≡ get_or c.args.block.now.lines c.lines.i c.index-lines-i.result = grind (arith, c.index-lines-i.is, c.as_slice-lines.ensures) in
    each_more (line_item c.args.block.now) _ _ _ _ _ c.index-lines-i.result lt e c.lines.invariant (grind (arith, c.in_ok-put_line.ensures, c.as_slice.ensures, c.as_slice-lines.ensures))

pub returns-then-has_fault : goal.returns-then-has_fault
returns-then-has_fault c =
    let lt : c.lines.i < length c.args.block.now.lines = grind (arith, c.lines-test.true, c.as_slice-lines.ensures) in
    let e : c.index-lines-i.result ≡ get_or c.args.block.now.lines c.lines.i c.index-lines-i.result = grind (arith, c.index-lines-i.is, c.as_slice-lines.ensures) in
    let more : c.put_line.new.marks.items ≡ c.args.marks.now.items ++ each (line_item c.args.block.now) (take (c.lines.i + 1) c.args.block.now.lines) =
    each_more (line_item c.args.block.now) _ _ _ _ _ c.index-lines-i.result lt e c.lines.invariant (grind (arith, c.in_ok-put_line.ensures, c.as_slice.ensures, c.as_slice-lines.ensures)) in
    let s = each-split (line_item c.args.block.now) c.args.block.now.lines (c.lines.i + 1) in (
      any_range is_some _ _ c.deref.result.now c.put_line.new.marks.items c.deref.ensures.value (sym c.if-has_fault.ensures),
      (
        s.0,
        ap (λ l. c.args.marks.now.items ++ l) s.1
            ∙ sym (append_assoc c.args.marks.now.items (each (line_item c.args.block.now) (take (c.lines.i + 1) c.args.block.now.lines)) s.0)
            ∙ ap (λ l. l ++ s.0) (sym more),
      ),
    )
