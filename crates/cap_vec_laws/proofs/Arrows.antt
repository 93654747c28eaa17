-- A morphism of the category of matrices from a to b is a matrix with a rows and b columns.
use Rattle.std.proofs.Common.{◌≡◌, ℕ, refl}
use Rattle.cap_matrix.specs.Grid.{Grid, IsMatrix, IsMatrixOf}
use Rattle.cap_laws.specs.Linear.{Arrow, Same}
use Rattle.cap_vec_laws.specs.Vec.{vec_data}

pub as-arrow : {p a b : ℕ} {f : Grid} → IsMatrixOf p a b f → Arrow (vec_data p) a b f
as-arrow F = record { is = F.is; from = F.from; to = F.to }

pub as-matrix : {p a b : ℕ} {f : Grid} → Arrow (vec_data p) a b f → IsMatrixOf p a b f
as-matrix F = record { is = F.is; from = F.from; to = F.to }

pub as-same : {p a b : ℕ} {f g : Grid} → IsMatrixOf p a b f → IsMatrixOf p a b g → f ≡ g → Same (vec_data p) a b f g
as-same F G e = record { left = as-arrow F; right = as-arrow G; congruent = e }

-- a matrix at its own ends
pub whole-matrix : {p : ℕ} {m : Grid} → IsMatrix p m → IsMatrixOf p m.row_count m.column_count m
whole-matrix M = record { is = M; from = refl; to = refl }
