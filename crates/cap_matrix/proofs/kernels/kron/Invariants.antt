use Rattle.std.proofs.Common.{◌+◌, ◌*◌, ◌/◌, ◌%◌, get_or}
use Rattle.cap_matrix.proofs.Writes.{AreRows}
use Rattle.cap_matrix.proofs.kernels.kron.Given as goal

abbrev pub invariant-loop-i : goal.invariant-loop-i
invariant-loop-i l = AreRows (l.fn.a_shape.cols * l.shape.cols) (l.i * l.shape.rows) l.out
    (λ i j. (get_or l.a (i / l.shape.rows * l.fn.a_shape.cols + j / l.shape.cols) 0 * get_or l.b (i % l.shape.rows * l.shape.cols + j % l.shape.cols) 0) % l.p)
