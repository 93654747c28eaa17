use Rattle.cap_reduce.specs.Flat.{IsColumnSoFar}
use Rattle.cap_reduce.proofs.elimination.clear_column.Given as goal

abbrev pub invariant-loop-i : goal.invariant-loop-i
invariant-loop-i l = IsColumnSoFar l.p l.cols l.initial.cells l.cells l.row l.col l.i
