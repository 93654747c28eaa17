-- Spans, the reduced row echelon form, null rows and solutions, for matrices of any size.
use Rattle.std.specs.Prelude.{◌≡◌, ◌≢◌, ℕ, ◌*◌, ◌%◌, ◌<◌, ◌↔◌, List, length, slice_index}
use Rattle.cap_matrix.specs.Grid.{Grid, entry, total, row_by, row_times, IsShaped}

-- v is in the span of M: it is x·M for some x
abbrev pub IsInSpan : Grid → List ℕ → Type 0
IsInSpan m v = (x : List ℕ) × (length x ≡ m.row_count) × (v ≡ row_times x m)

-- v is, modulo p, a combination of the first n rows of a table with m columns
abbrev pub InSpan : ℕ → ℕ → ℕ → (ℕ → ℕ → ℕ) → (ℕ → ℕ) → Type 0
InSpan p n m t v = (x : ℕ → ℕ) × ((j : ℕ) → j < m → total n (λ i. x i * t i j) % p ≡ v j % p)

-- r rows of residues in m columns are reduced: each row is 0 before its lead and 1 there, the leads go to the right, and a lead's column is 0 elsewhere
pub record IsReducedBy (p r m : ℕ) (t : ℕ → ℕ → ℕ) (lead : ℕ → ℕ) : Type 0 where
  pub residues : (i j : ℕ) → i < r → j < m → t i j < p
  pub inside : (i : ℕ) → i < r → lead i < m
  pub rising : (i k : ℕ) → i < k → k < r → lead i < lead k
  pub before : (i j : ℕ) → i < r → j < lead i → t i j ≡ 0
  pub one : (i : ℕ) → i < r → t i (lead i) ≡ 1
  pub clear : (i k : ℕ) → i < r → k < r → i ≢ k → t i (lead k) ≡ 0

-- a matrix in reduced row echelon form, without zero rows
pub record IsReduced (g : Grid) : Type 0 where
  pub shaped : IsShaped g
  pub lead : ℕ → ℕ
  pub by_leads : IsReducedBy g.prime g.row_count g.column_count (entry g.entries) lead

-- r is the reduced form of m: it is reduced, and has the columns and the span of m
pub record IsReducedForm (m r : Grid) : Type 0 where
  pub prime : r.prime ≡ m.prime
  pub width : r.column_count ≡ m.column_count
  pub reduced : IsReduced r
  pub spans : (v : List ℕ) → IsInSpan r v ↔ IsInSpan m v

-- a row x of residues with x·M = 0
pub record IsNullRow (m : Grid) (x : List ℕ) : Type 0 where
  pub long : length x ≡ m.row_count
  pub residues : (i : ℕ) → i < m.row_count → slice_index x i < m.prime
  pub null : row_times x m ≡ row_by m.column_count (λ j. 0)

-- n is the null-row basis of m: it is reduced, and its span is the set of all x with x·m = 0
pub record IsNullBasis (m n : Grid) : Type 0 where
  pub prime : n.prime ≡ m.prime
  pub width : n.column_count ≡ m.row_count
  pub reduced : IsReduced n
  pub spans : (x : List ℕ) → IsInSpan n x ↔ IsNullRow m x

-- row i of m is a combination of the rows before it
abbrev pub IsRedundant : Grid → ℕ → Type 0
IsRedundant m i = InSpan m.prime i m.column_count (entry m.entries) (entry m.entries i)

-- x is the canonical solution: x·m = v, and x is 0 at each row that is a combination of the rows before it
pub record IsSolution (m : Grid) (v x : List ℕ) : Type 0 where
  pub long : length x ≡ m.row_count
  pub residues : (i : ℕ) → i < m.row_count → slice_index x i < m.prime
  pub gives : row_times x m ≡ v
  pub bare : (i : ℕ) → i < m.row_count → IsRedundant m i → slice_index x i ≡ 0

-- y shows that v is no x·m: m·y is 0, and v·y is not
pub record IsObstruction (m : Grid) (v y : List ℕ) : Type 0 where
  pub long : length y ≡ m.column_count
  pub residues : (j : ℕ) → j < m.column_count → slice_index y j < m.prime
  pub null : (i : ℕ) → i < m.row_count → total m.column_count (λ j. entry m.entries i j * slice_index y j) % m.prime ≡ 0
  pub some : total m.column_count (λ j. slice_index v j * slice_index y j) % m.prime ≢ 0
