use Rattle.std.proofs.Common.{◌+◌, ◌*◌, get_or}
use Rattle.cap_matrix.proofs.Writes.{AreRows}
use Rattle.cap_matrix.proofs.kernels.copy_block.Given as goal

abbrev pub invariant-loop-i : goal.invariant-loop-i
invariant-loop-i l = AreRows l.fn.shape.cols l.i l.out (λ i j. get_or l.a ((l.row + i) * l.a_shape.cols + (l.col + j)) 0)
