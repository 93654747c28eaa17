-- Kernels among matrices: a morphism from a to b is a matrix with a rows and b columns, and composition is the product.
use Rattle.std.specs.Prelude.{◌≡◌}
use Rattle.cap_matrix.specs.Grid.{Grid, IsMatrixOf, product_of, zero_of}

-- u is the only matrix with u·k = t
pub record IsOnlyFactor (k t u : Grid) : Type 0 where
  pub matrix : IsMatrixOf k.prime t.row_count k.row_count u
  pub gives : product_of u k ≡ t
  pub only : (v : Grid) → IsMatrixOf k.prime t.row_count k.row_count v → product_of v k ≡ t → v ≡ u

pub record HasOnlyFactor (k t : Grid) : Type 0 where
  pub factor : Grid
  pub is : IsOnlyFactor k t factor

-- k is a kernel of f: k·f = 0, and each matrix t of any row count with t·f = 0 is u·k for exactly one u
pub record IsKernelOf (f k : Grid) : Type 0 where
  pub matrix : IsMatrixOf f.prime k.row_count f.row_count k
  pub zero : product_of k f ≡ zero_of f.prime k.row_count f.column_count
  pub lift : (t : Grid) → IsMatrixOf f.prime t.row_count f.row_count t → product_of t f ≡ zero_of f.prime t.row_count f.column_count → HasOnlyFactor k t
