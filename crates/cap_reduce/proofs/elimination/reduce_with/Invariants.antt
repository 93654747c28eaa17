use Rattle.std.proofs.Common.{ℕ}
use Rattle.cap_reduce.specs.Flat.{cell}
use Rattle.cap_reduce.specs.Cleared.{IsCleared, IsSameSpan}
use Rattle.cap_reduce.proofs.elimination.reduce_with.Given as goal

abbrev pub invariant-loop-col : goal.invariant-loop-col
invariant-loop-col l = record {
  span : IsSameSpan l.field l.rows l.cols (cell l.initial.cells l.cols) (cell l.cells l.cols);
  cleared : (lead : ℕ → ℕ) × IsCleared l.field l.rows l.cols (cell l.cells l.cols) lead l.done l.col;
}
