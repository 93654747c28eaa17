use Rattle.std.proofs.Common.{◌%◌, get_or, refl, arith}
use Rattle.cap_matrix.proofs.Writes.{row_so_far_more}
use Rattle.cap_matrix.proofs.kernels.store_row.Goals as goal

pub loop-c-preserved : goal.loop-c-preserved
loop-c-preserved c =
    row_so_far_more c.args.cols c.args.out.now c.loop-c.out c.args.row c.loop-c.c c.args.rows _
    (λ q. get_or c.args.sums.now q 0 % c.args.p)
    c.loop-c.invariant (omega arith) c.requires.within (omega arith) refl
