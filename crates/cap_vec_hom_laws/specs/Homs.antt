-- The coefficients of matrices: their cells, row after row.
use Rattle.std.specs.Prelude.{◌≡◌, ℕ, ◌*◌, ◌/◌, ◌%◌, List}
use Rattle.cap_matrix.specs.Grid.{Grid, IsMatrixOf, entry, row_by, transposed_of, kron_of}
use Rattle.cap_matrix.specs.Buffer.{matrix_of}
use Rattle.cap_homlaw.specs.Hom.{HomData, hom_matrix}
use Rattle.cap_vec_laws.specs.Vec.{vec_data}

-- the cells of a matrix in one row
abbrev pub cells_row : Grid → List ℕ
cells_row g = row_by (g.row_count * g.column_count) (λ k. entry g.entries (k / g.column_count) (k % g.column_count))

-- a matrix from a to b has a·b coefficients, its cells; the dimension 1 generates the others
abbrev pub vec_hom : ℕ → HomData ℕ Grid
vec_hom p = record {
  dim = λ a b. a * b;
  nu = λ g. cells_row g;
  back = λ a b row. matrix_of p a b row;
  generators = 1;
  generator = λ n. 1;
}

-- the matrix of l and r, which sends the cells of g to those of l·g·r, is the Kronecker product of l, transposed, and r
pub record HomIsKronecker (p : ℕ) : Type 0 where
  pub law : {x a b y : ℕ} {l r : Grid} → IsMatrixOf p x a l → IsMatrixOf p b y r → hom_matrix (vec_data p) (vec_hom p) l r ≡ kron_of (transposed_of l) r
