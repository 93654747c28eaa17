use Rattle.std.proofs.Common.{◌≡◌, ℕ, ◌+◌, ◌*◌, ◌<◌, ◌≤◌, get_or}
use Rattle.cap_matrix.proofs.kernels.add_multiple.Given as goal

abbrev pub invariant-loop-j : goal.invariant-loop-j
invariant-loop-j l = record {
  done : (k : ℕ) → k < l.j → get_or l.sums k 0 ≡ get_or l.initial.sums k 0 + l.factor * get_or l.cells (l.at + k) 0;
  rest : (k : ℕ) → l.j ≤ k → get_or l.sums k 0 ≡ get_or l.initial.sums k 0;
}
