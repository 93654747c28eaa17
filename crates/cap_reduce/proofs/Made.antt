-- Matrices and the flat buffers that hold them, at counts of one's own.
use Rattle.std.proofs.Common.{◌≡◌, ℕ, ◌+◌, ◌*◌, ◌<◌, List, get_or, ap, subst}
use Rattle.cap_matrix.specs.Grid.{Grid, IsMatrixOf, entry, matrix_by}
use Rattle.cap_matrix.specs.Buffer.{IsFlat, IsBufferOf, matrix_of}
use Rattle.cap_matrix.proofs.Rows.{rows_by-same}
use Rattle.cap_matrix.proofs.Buffers.{buffer_matrix, buffer-at}

-- a matrix with n rows and w columns, and its cells
pub record IsHeld (p n w : ℕ) (m : Grid) (cells : List ℕ) : Type 0 where
  pub matrix : IsMatrixOf p n w m
  pub flat : IsFlat p n w cells
  pub cell_at : (i j : ℕ) → i < n → j < w → entry m.entries i j ≡ get_or cells (i * w + j) 0

pub held : (p n w : ℕ) (m : Grid) (cells : List ℕ) → m.prime ≡ p → m.row_count ≡ n → m.column_count ≡ w → IsBufferOf m cells → IsHeld p n w m cells
held p n w m cells ep en ew h =
    subst (λ x. IsHeld x n w m cells) ep (subst (λ x. IsHeld m.prime x w m cells) en (subst (λ x. IsHeld m.prime m.row_count x m cells) ew (record {
      matrix = buffer_matrix m cells h;
      flat = h.flat;
      cell_at = buffer-at m cells h;
    })))

abbrev with_rows : ℕ → ℕ → ℕ → List (List ℕ) → Grid
with_rows p n m e = record { prime = p; row_count = n; column_count = m; entries = e }

-- the matrix of a buffer whose cells a formula gives
pub matrix_of_is : (p n m : ℕ) (cells : List ℕ) (f : ℕ → ℕ → ℕ) → ((i j : ℕ) → i < n → j < m → get_or cells (i * m + j) 0 ≡ f i j) → matrix_of p n m cells ≡ matrix_by p n m f
matrix_of_is p n m cells f h = ap (with_rows p n m) (rows_by-same n m (λ i j. get_or cells (i * m + j) 0) f h)
