use Rattle.std.proofs.Common.{arith}
use Rattle.cap_reduce.proofs.Rows.{swap_so_far_more}
use Rattle.cap_reduce.proofs.elimination.swap_rows.Goals as goal

pub loop-c-preserved : goal.loop-c-preserved
loop-c-preserved c =
    swap_so_far_more c.args.cols c.args.cells.now c.loop-c.cells c.args.a c.args.b c.loop-c.c c.args.rows c.loop-c.invariant
    (omega arith) c.requires.order c.requires.within (omega arith)
