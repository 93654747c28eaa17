use Rattle.std.proofs.Common.{◌*◌, ◌%◌, length, get_or}
use Rattle.cap_matrix.proofs.Writes.{AreRows}
use Rattle.cap_matrix.proofs.kernels.kron_row.Given as goal

abbrev pub invariant-loop-i : goal.invariant-loop-i
invariant-loop-i l = AreRows (length l.b) l.i l.out (λ i j. (get_or l.a i 0 * get_or l.b j 0) % l.p)
