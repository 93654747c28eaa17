use Rattle.std.proofs.Common.{◌+◌, ◌*◌, get_or}
use Rattle.cap_matrix.proofs.Writes.{AreRows}
use Rattle.cap_matrix.proofs.kernels.transpose.Given as goal

abbrev pub invariant-loop-i : goal.invariant-loop-i
invariant-loop-i l = AreRows l.rows l.i l.out (λ i j. get_or l.a (j * l.cols + i) 0)
