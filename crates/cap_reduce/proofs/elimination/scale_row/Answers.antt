use Rattle.std.proofs.Common.{◌*◌, ◌%◌, ap, ◌∙◌, arith}
use Rattle.cap_reduce.specs.Flat.{cell}
use Rattle.cap_matrix.proofs.Writes.{row_so_far_more}
use Rattle.cap_reduce.proofs.elimination.scale_row.Goals as goal

pub loop-c-preserved : goal.loop-c-preserved
loop-c-preserved c =
    row_so_far_more c.args.cols c.args.cells.now c.loop-c.cells c.args.row c.loop-c.c c.args.rows _
    (λ q. (cell c.args.cells.now c.args.cols c.args.row q * c.args.factor) % c.args.p)
    c.loop-c.invariant (omega arith) c.requires.within (omega arith)
    (c.reduced.ensures ∙ ap (λ y. (y * c.args.factor) % c.args.p) (c.loop-c.invariant.later c.loop-c.c (omega arith) (omega arith)))
