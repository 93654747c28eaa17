use Rattle.std.proofs.Common.{◌≡◌, ℕ, ◌+◌, ◌*◌, ◌<◌, get_or}
use Rattle.cap_matrix.specs.Grid.{total}
use Rattle.cap_matrix.proofs.kernels.sum_row.Given as goal

abbrev pub invariant-loop-s : goal.invariant-loop-s
invariant-loop-s l = (k : ℕ) → k < l.s-index → get_or l.sums k 0 ≡ 0

abbrev pub invariant-loop-k : goal.invariant-loop-k
invariant-loop-k l = (j : ℕ) → j < l.cols → get_or l.sums j 0 ≡ total l.k (λ q. get_or l.a (l.row * l.inner + q) 0 * get_or l.b (q * l.cols + j) 0)
