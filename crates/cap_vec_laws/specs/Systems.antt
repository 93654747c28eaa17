-- Systems of linear equations between matrices as one row equation: the cells of the unknowns, unknown by unknown and row by row.
use Rattle.std.specs.Prelude.{ℕ, zero, suc, ◌+◌, ◌*◌, List, [], ◌∷◌, Option, Some, None}
use Rattle.cap_matrix.specs.Grid.{Grid, IsMatrixOf, entry, matrix_by, zero_of, sum_of, transposed_of, stacked_of, beside_of, kron_of}
use Rattle.cap_matrix.specs.Flat.{flat_row}
use Rattle.cap_laws.specs.declared.values.Term.{Term}
use Rattle.cap_laws.specs.Systems.{Nth, IsTerm, IsEquation}
use Rattle.cap_laws.specs.declared.values.Equation.{Equation}
use Rattle.cap_vec_laws.specs.Vec.{vec_data}

-- how many cells unknowns with these ends have
abbrev pub cells_of : List (ℕ × ℕ) → ℕ
cells_of [] = 0
cells_of (u ∷ us) = u.0 * u.1 + cells_of us

-- the matrix k in the rows of unknown u, and 0 in those of the others
abbrev pub in_rows : ℕ → ℕ → List (ℕ × ℕ) → ℕ → Grid → Grid
in_rows p n [] u k = zero_of p 0 n
in_rows p n (a ∷ us) zero k = stacked_of k (zero_of p (cells_of us) n)
in_rows p n (a ∷ us) (suc u) k = stacked_of (zero_of p (a.0 * a.1) n) (in_rows p n us u k)

-- the coefficients of the cells of the unknowns in a term of n cells: l·X·r has those of l' ⊗ r
abbrev pub term_rows : ℕ → List (ℕ × ℕ) → ℕ → Term Grid → Grid
term_rows p us n t = in_rows p n us t.unknown (kron_of (transposed_of t.left) t.right)

-- and in a sum of terms
abbrev pub coefficients_of : ℕ → List (ℕ × ℕ) → ℕ → List (Term Grid) → Grid
coefficients_of p us n [] = zero_of p (cells_of us) n
coefficients_of p us n (t ∷ ts) = sum_of (term_rows p us n t) (coefficients_of p us n ts)

-- the coefficients of all equations, side by side
abbrev pub system_matrix : ℕ → List (ℕ × ℕ) → List (Equation Grid) → Grid
system_matrix p us [] = zero_of p (cells_of us) 0
system_matrix p us (e ∷ es) = beside_of (coefficients_of p us (e.value.row_count * e.value.column_count) e.terms) (system_matrix p us es)

-- the cells of all values, and of matrices for the unknowns, in one row
abbrev pub values_row : ℕ → List (Equation Grid) → Grid
values_row p [] = zero_of p 1 0
values_row p (e ∷ es) = beside_of (flat_row e.value) (values_row p es)

abbrev pub cells_row : ℕ → List Grid → Grid
cells_row p [] = zero_of p 1 0
cells_row p (x ∷ xs) = beside_of (flat_row x) (cells_row p xs)

-- how many cells the values have
abbrev pub width_of : List (Equation Grid) → ℕ
width_of [] = 0
width_of (e ∷ es) = e.value.row_count * e.value.column_count + width_of es

-- the matrices xs have the ends us, one by one
pub data AreMatrices (p : ℕ) : List (ℕ × ℕ) → List Grid → Type 0 where
  none : AreMatrices p [] []
  one : {u : ℕ × ℕ} {x : Grid} {us : List (ℕ × ℕ)} {xs : List Grid} → IsMatrixOf p u.0 u.1 x → AreMatrices p us xs → AreMatrices p (u ∷ us) (x ∷ xs)

-- the ends of a list of terms
pub record AreTerms (p : ℕ) (us : List (ℕ × ℕ)) (a b : ℕ) (ts : List (Term Grid)) : Type 0 where
  pub each : (n : ℕ) (t : Term Grid) → Nth ts n t → IsTerm (vec_data p) us a b t

-- the equations of a system
pub record AreEquations (p : ℕ) (us : List (ℕ × ℕ)) (es : List (Equation Grid)) : Type 0 where
  pub each : (n : ℕ) (e : Equation Grid) → Nth es n e → IsEquation (vec_data p) us e

-- the matrices whose cells, unknown by unknown and row by row, are y
abbrev pub matrices_of : ℕ → List (ℕ × ℕ) → (ℕ → ℕ) → List Grid
matrices_of p [] y = []
matrices_of p (u ∷ us) y = matrix_by p u.0 u.1 (λ i j. y (i * u.1 + j)) ∷ matrices_of p us (λ k. y (u.0 * u.1 + k))

-- those whose cells are the row that is answered, or none
abbrev pub matrices_of_lift : ℕ → List (ℕ × ℕ) → Option Grid → Option (List Grid)
matrices_of_lift p us None = None
matrices_of_lift p us (Some u) = Some (matrices_of p us (entry u.entries 0))
