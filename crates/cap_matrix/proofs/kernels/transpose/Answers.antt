use Rattle.std.proofs.Common.{◌+◌, ◌*◌, get_or, arith}
use Rattle.cap_matrix.proofs.Writes.{rows_more}
use Rattle.cap_matrix.proofs.kernels.transpose.Goals as goal

pub loop-i-preserved : goal.loop-i-preserved
loop-i-preserved c =
    let t = c.loop-i.i in let e = c.read_column.ensures in let z = c.read_column.auto in let y = c.loop-i.auto in
    rows_more c.args.rows c.loop-i.i c.args.cols _ c.loop-i.out c.read_column.new.out (λ i j. get_or c.args.a.now (j * c.args.cols + i) 0)
    c.loop-i.invariant (omega arith) (omega arith) (omega arith) (λ j below. c.read_column.ensures j (omega arith))
