use Rattle.std.proofs.Common.{◌≡◌, ℕ, ◌*◌, ◌%◌, ◌<◌, get_or}
use Rattle.cap_matrix.proofs.kernels.scale_cells.Given as goal

abbrev pub invariant-loop-k : goal.invariant-loop-k
invariant-loop-k l = (q : ℕ) → q < l.k → get_or l.out q 0 ≡ (l.factor * get_or l.a q 0) % l.p
