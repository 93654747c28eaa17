use Rattle.std.proofs.Common.{◌≡◌, ℕ, ◌+◌, ◌*◌, ◌<◌, ◌≤◌, get_or}
use Rattle.cap_matrix.proofs.Entries.{delta}
use Rattle.cap_matrix.proofs.kernels.write_ones.Given as goal

abbrev pub invariant-loop-i : goal.invariant-loop-i
invariant-loop-i l = record {
  done : (k j : ℕ) → k < l.i → j < l.n → get_or l.cells (k * l.n + j) 0 ≡ delta k j;
  rest : (k j : ℕ) → l.i ≤ k → j < l.n → get_or l.cells (k * l.n + j) 0 ≡ 0;
}
