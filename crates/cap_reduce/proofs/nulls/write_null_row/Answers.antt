use Rattle.std.proofs.Common.{get_or, arith}
use Rattle.cap_reduce.specs.Flat.{cell}
use Rattle.cap_reduce.specs.NullTable.{null_entry}
use Rattle.cap_matrix.proofs.Writes.{row_so_far_more}
use Rattle.cap_reduce.proofs.nulls.write_null_row.Goals as goal

pub loop-c-preserved : goal.loop-c-preserved
loop-c-preserved c =
    row_so_far_more c.args.cols c.args.out.now c.loop-c.out c.args.row c.loop-c.c c.args.count _
    (null_entry c.args.p c.args.rank c.args.cols (cell c.args.cells.now c.args.cols) (λ j. get_or c.args.place.now j 0) c.args.free)
    c.loop-c.invariant (omega arith) c.requires.within (omega arith) c.null_cell.ensures
