use Rattle.std.proofs.Common.{◌-◌, refl, arith}
use Rattle.cap_reduce.specs.Flat.{cell}
use Rattle.cap_matrix.proofs.Writes.{row_so_far_more}
use Rattle.cap_reduce.proofs.nulls.turn_row.Goals as goal

pub loop-c-preserved : goal.loop-c-preserved
loop-c-preserved c =
    row_so_far_more c.args.rows c.args.turned.now c.loop-c.turned c.args.row c.loop-c.c c.args.cols _
    (λ q. cell c.args.cells.now c.args.cols (c.args.rows - 1 - q) c.args.row)
    c.loop-c.invariant (omega arith) c.requires.within (omega arith) refl
