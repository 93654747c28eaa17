use Rattle.std.proofs.Common.{◌+◌, ◌-◌, ◌*◌, cond, ltb, get_or}
use Rattle.cap_matrix.proofs.Writes.{AreRows}
use Rattle.cap_matrix.proofs.kernels.join_rows.Given as goal

abbrev pub invariant-loop-i : goal.invariant-loop-i
invariant-loop-i l =
    AreRows (l.left + l.right) l.i l.out (λ i j. cond (ltb j l.left) (get_or l.a (i * l.left + j) 0) (get_or l.b (i * l.right + (j - l.left)) 0))
