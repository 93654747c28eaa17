use Rattle.std.proofs.Common.{◌≡◌, ◌∙◌, sym, ap, refl, append_assoc, arith}
use Rattle.cap_block_faults.proofs.Each.{each_more, each_more_at, two, three}
use Rattle.cap_block_faults.specs.Literals.{row_item}
use Rattle.cap_block_faults.proofs.literals.put_inside.Goals as goal

pub rows-preserved : goal.rows-preserved
rows-preserved c = each_more (row_item c.args.coeffs) _ _ _ _ _ c.index-rows-i.result c.rows-test.true c.index-rows-i.is c.rows.invariant (grind (arith, append_assoc, c.in_ok-put_separator.ensures, c.as_slice.ensures, c.in_ok-put_row.ensures))
