use Rattle.std.proofs.Common.{◌≡◌, ℕ, ◌+◌, ◌*◌, ◌%◌, ◌<◌, get_or}
use Rattle.cap_matrix.specs.Grid.{total}
use Rattle.cap_matrix.proofs.kernels.multiply.Given as goal

abbrev pub invariant-loop-i : goal.invariant-loop-i
invariant-loop-i l = (k j : ℕ) → k < l.i → j < l.cols
    → get_or l.out (k * l.cols + j) 0 ≡ total l.shape.cols (λ q. get_or l.a (k * l.shape.cols + q) 0 * get_or l.b (q * l.cols + j) 0) % l.p
