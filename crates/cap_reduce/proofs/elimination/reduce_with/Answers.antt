use Rattle.cap_reduce.specs.Flat.{cell}
use Rattle.cap_reduce.proofs.Steps.{cleared_start}
use Rattle.cap_reduce.proofs.Kept.{same_span_refl, same_span_trans}
use Rattle.cap_reduce.proofs.elimination.reduce_with.Goals as goal

pub loop-col-init : goal.loop-col-init
loop-col-init c = record {
  span = same_span_refl c.args.field c.args.rows c.args.cols (cell c.args.cells.now c.args.cols);
  cleared = (λ i. 0, cleared_start c.args.field c.args.rows c.args.cols (cell c.args.cells.now c.args.cols) c.requires.residues);
}

pub loop-col-preserved : goal.loop-col-preserved
loop-col-preserved c = record {
  span = same_span_trans c.args.field c.args.rows c.args.cols (cell c.args.cells.now c.args.cols) (cell c.loop-col.cells c.args.cols)
      (cell c.clear_next-done.new.cells c.args.cols) c.loop-col.invariant.span c.clear_next-done.ensures.span;
  cleared = c.clear_next-done.ensures.cleared;
}
