use Rattle.std.proofs.Common.{◌≡◌, ℕ, ◌+◌, ◌%◌, ◌<◌, ◌≤◌, get_or}
use Rattle.cap_matrix.proofs.kernels.add_cells.Given as goal

abbrev pub invariant-loop-k : goal.invariant-loop-k
invariant-loop-k l = record {
  done : (q : ℕ) → q < l.k → get_or l.sums q 0 ≡ (get_or l.initial.sums q 0 + get_or l.b q 0) % l.p;
  rest : (q : ℕ) → l.k ≤ q → get_or l.sums q 0 ≡ get_or l.initial.sums q 0;
}
