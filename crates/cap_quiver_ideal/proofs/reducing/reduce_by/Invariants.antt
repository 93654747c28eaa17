use Rattle.std.proofs.Common.{ℕ, ◌<◌, length, get_or}
use Rattle.cap_matrix.specs.Grid.{entry}
use Rattle.cap_quiver_laws.specs.Quotient.{IsCongruent}
use Rattle.cap_quiver_ideal.proofs.reducing.reduce_by.Given as goal

abbrev pub invariant-loop-f : goal.invariant-loop-f
invariant-loop-f l = record {
  residues : (q : ℕ) → q < length l.row → get_or l.row q 0 < l.rows.prime;
  congruent : IsCongruent l.rows.prime l.rows.row_count l.rows.column_count (entry l.rows.entries) (λ q. get_or l.row q 0) (λ q. get_or l.initial.row q 0);
}
