use Rattle.std.proofs.Common.{◌≡◌, ◌∙◌, sym, ap, refl, append_assoc, arith}
use Rattle.cap_block_faults.proofs.Each.{each_more, each_more_at, two, three}
use Rattle.cap_block_faults.specs.Literals.{matrix_item}
use Rattle.cap_block_faults.proofs.literals.put_matrices.Goals as goal

pub matrices-preserved : goal.matrices-preserved
matrices-preserved c = each_more (matrix_item c.args.objects) _ _ _ _ _ c.index-matrices-i.result c.matrices-test.true c.index-matrices-i.is c.matrices.invariant (grind (arith, append_assoc, c.told.ensures, c.in_ok-put_rows.ensures))
