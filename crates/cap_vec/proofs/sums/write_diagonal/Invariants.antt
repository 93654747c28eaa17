use Rattle.cap_vec.proofs.Diagonals.{IsSoFar}
use Rattle.cap_vec.proofs.sums.write_diagonal.Given as goal

abbrev pub invariant-loop-i : goal.invariant-loop-i
invariant-loop-i l = IsSoFar l.cols l.row l.col l.i l.cells
