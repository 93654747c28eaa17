use Rattle.std.proofs.Common.{◌≡◌, ◌∙◌, sym, ap, refl, append_assoc, arith}
use Rattle.cap_block_faults.proofs.Each.{each_more, each_more_at, two, three}
use Rattle.cap_block_faults.specs.Blocks.{term_item, no_limit}
use Rattle.cap_block_faults.proofs.blocks.put_combo_terms.Goals as goal

pub terms-preserved : goal.terms-preserved
terms-preserved c = each_more (term_item c.args.lines.now no_limit) _ _ _ _ _ c.index-terms-i.result c.terms-test.true c.index-terms-i.is c.terms.invariant (grind (arith, append_assoc, c.in_ok-put_separator.ensures, c.in_ok-put_int.ensures, c.as_slice.ensures, c.in_ok-put_path.ensures))
