use Rattle.std.proofs.Common.{◌≡◌, ℕ, ◌+◌, ◌-◌, ◌*◌, ◌%◌, ◌<◌, ◌≤◌, get_or}
use Rattle.cap_matrix.specs.Grid.{entry}
use Rattle.cap_quiver_ideal.proofs.reducing.take_off.Given as goal

abbrev pub invariant-loop-q : goal.invariant-loop-q
invariant-loop-q l = record {
  done : (i : ℕ) → i < l.q → get_or l.row i 0 ≡ (get_or l.initial.row i 0 + (l.rows.prime - l.c) * entry l.rows.entries l.f i) % l.rows.prime;
  rest : (i : ℕ) → l.q ≤ i → get_or l.row i 0 ≡ get_or l.initial.row i 0;
}
