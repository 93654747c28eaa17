use Rattle.std.proofs.Common.{◌+◌, ◌*◌, ◌/◌, ◌%◌, length, get_or}
use Rattle.cap_matrix.proofs.Writes.{AreRows}
use Rattle.cap_matrix.proofs.kernels.kron_rows.Given as goal

abbrev pub invariant-loop-i : goal.invariant-loop-i
invariant-loop-i l = AreRows (length l.a * l.fn.shape.cols) l.i l.out (λ i j. (get_or l.a (j / l.fn.shape.cols) 0 * get_or l.b (i * l.fn.shape.cols + j % l.fn.shape.cols) 0) % l.p)
