-- Matrices in one flat buffer, row after row, and what a loop over a row has written.
use Rattle.std.specs.Prelude.{◌≡◌, ◌≢◌, ℕ, ◌+◌, ◌*◌, ◌<◌, ◌≤◌, List, true, length, slice_index}
use Rattle.cap_field.specs.Residue.{is_tabled}
use Rattle.cap_matrix.specs.Grid.{Grid, rows_by, matrix_by, fits_limits}

-- the rows of a flat buffer
abbrev pub rows_of : ℕ → ℕ → List ℕ → List (List ℕ)
rows_of n m cells = rows_by n m (λ i j. slice_index cells (i * m + j))

-- a flat buffer of n rows and m columns of residues, within the limits
pub record IsFlat (p n m : ℕ) (cells : List ℕ) : Type 0 where
  pub tabled : is_tabled p ≡ true
  pub size : fits_limits n m ≡ true
  pub cells_length : length cells ≡ n * m
  pub residues : (k : ℕ) → k < n * m → slice_index cells k < p

-- the matrix of a flat buffer
abbrev pub matrix_of : ℕ → ℕ → ℕ → List ℕ → Grid
matrix_of p n m cells = matrix_by p n m (λ i j. slice_index cells (i * m + j))

-- a flat buffer holds the matrix g, row after row
pub record IsBufferOf (g : Grid) (cells : List ℕ) : Type 0 where
  pub flat : IsFlat g.prime g.row_count g.column_count cells
  pub same : matrix_of g.prime g.row_count g.column_count cells ≡ g

-- a loop over the columns has written f to the first c cells of row t, and nothing else
pub record IsRowSoFar (m : ℕ) (first now : List ℕ) (t c : ℕ) (f : ℕ → ℕ) : Type 0 where
  pub done : (q : ℕ) → q < c → slice_index now (t * m + q) ≡ f q
  pub later : (q : ℕ) → c ≤ q → q < m → slice_index now (t * m + q) ≡ slice_index first (t * m + q)
  pub others : (i q : ℕ) → q < m → i ≢ t → slice_index now (i * m + q) ≡ slice_index first (i * m + q)
