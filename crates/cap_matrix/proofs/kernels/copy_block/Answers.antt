use Rattle.std.proofs.Common.{◌≡◌, ◌+◌, ◌*◌, get_or, ap, ◌∙◌, arith}
use Rattle.cap_matrix.proofs.Writes.{rows_more, part-at}
use Rattle.cap_matrix.proofs.kernels.copy_block.Goals as goal

pub loop-i-preserved : goal.loop-i-preserved
loop-i-preserved c =
    let from = (c.args.row + c.loop-i.i) * c.args.a_shape.cols + c.args.col in
    rows_more c.args.shape.cols c.loop-i.i c.args.shape.rows _ c.loop-i.out c.copy_from_slice.new.self
    (λ i j. get_or c.args.a.now ((c.args.row + i) * c.args.a_shape.cols + (c.args.col + j)) 0)
    c.loop-i.invariant (omega arith) (omega arith) (omega arith)
    (λ j below. ap (λ xs. get_or xs j 0) c.copy_from_slice.ensures.after
    ∙ part-at c.args.a.now from (from + c.args.shape.cols) j (omega arith)
    ∙ ap (λ y. get_or c.args.a.now y 0) (let e : from + j ≡ (c.args.row + c.loop-i.i) * c.args.a_shape.cols + (c.args.col + j) = omega arith in e))
