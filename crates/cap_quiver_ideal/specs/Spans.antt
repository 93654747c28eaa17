-- Matrices that span what the rows of a table span.
use Rattle.std.specs.Prelude.{◌≡◌, ℕ, ◌+◌, ◌<◌, ◌≤◌}
use Rattle.cap_matrix.specs.Grid.{Grid, IsMatrixOf, entry}
use Rattle.cap_quiver_laws.specs.ClassTable.{SpanTheSame}

-- J is a matrix of residues modulo p with m columns, and at most as many rows
pub record IsShort (p m : ℕ) (J : Grid) : Type 0 where
  pub matrix : IsMatrixOf p J.row_count m J
  pub few : J.row_count ≤ m

-- its rows span what the first k rows of t span
pub record IsSpanOf (p k m : ℕ) (t : ℕ → ℕ → ℕ) (J : Grid) : Type 0 where
  pub short : IsShort p m J
  pub same : SpanTheSame p k J.row_count m t (entry J.entries)

-- F spans what J and the n rows of f span: it spans the first k + n rows of each table whose first k rows J spans, and whose next n rows are those of f
pub record IsGrown (n m : ℕ) (f : ℕ → ℕ → ℕ) (J F : Grid) : Type 0 where
  pub short : IsShort J.prime m F
  pub spans : (k : ℕ) (t : ℕ → ℕ → ℕ) → SpanTheSame J.prime k J.row_count m t (entry J.entries) → ((i q : ℕ) → i < n → q < m → t (k + i) q ≡ f i q)
      → SpanTheSame J.prime (k + n) F.row_count m t (entry F.entries)
