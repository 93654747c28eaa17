use Rattle.std.proofs.Common.{◌≡◌, ◌∙◌, sym, ap, refl, append_assoc, arith}
use Rattle.cap_block_faults.proofs.Each.{each_more, each_more_at, two, three}
use Rattle.cap_block_faults.specs.Literals.{dim_item}
use Rattle.cap_block_faults.proofs.literals.put_all_dims.Goals as goal

pub dims-preserved : goal.dims-preserved
dims-preserved c = each_more_at (dim_item c.args.objects) _ _ _ _ _ 0 c.dims-test.true c.dims.invariant (cc (c.in_ok-put.ensures, c.dim_mark.ensures))
