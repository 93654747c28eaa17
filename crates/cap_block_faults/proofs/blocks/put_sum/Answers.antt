use Rattle.std.proofs.Common.{◌≡◌, ◌∙◌, sym, ap, refl, append_assoc, arith}
use Rattle.cap_block_faults.proofs.Each.{each_more, each_more_at, two, three}
use Rattle.cap_block_faults.specs.Blocks.{term_item, most_16}
use Rattle.cap_block_faults.proofs.blocks.put_sum.Goals as goal

pub terms-preserved : goal.terms-preserved
terms-preserved c = each_more (term_item c.args.lines.now most_16) _ _ _ _ _ c.index-terms-i.result c.terms-test.true c.index-terms-i.is c.terms.invariant (grind (arith, append_assoc, c.in_ok-put_separator.ensures, c.told.ensures, c.in_ok-put_int.ensures, c.as_slice.ensures, c.in_ok-put_path.ensures))
