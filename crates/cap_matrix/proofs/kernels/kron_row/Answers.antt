use Rattle.std.proofs.Common.{◌*◌, ◌%◌, length, get_or, arith}
use Rattle.cap_matrix.proofs.Writes.{rows_more}
use Rattle.cap_matrix.proofs.kernels.kron_row.Goals as goal

pub loop-i-preserved : goal.loop-i-preserved
loop-i-preserved c =
    rows_more (length c.args.b.now) c.loop-i.i (length c.args.a.now) _ c.loop-i.out c.scale_cells.new.out
    (λ i j. (get_or c.args.a.now i 0 * get_or c.args.b.now j 0) % c.args.p)
    c.loop-i.invariant (omega arith) (omega arith) (omega arith)
    (λ j below. c.scale_cells.ensures j (omega arith))
