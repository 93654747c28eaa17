-- A system of linear equations between matrices as one row equation y·M = v, said entry by entry: the numbers of y are the entries of the unknowns, unknown by unknown and row by row, those of v the entries of the values.
use Rattle.std.specs.Prelude.{◌≡◌, ℕ, ◌+◌, ◌*◌, ◌%◌, ◌<◌, ◌==◌, if◌then◌else◌, List, length, take, slice_index, Option, Some, None}
use Rattle.std.specs.List.{sum_by}
use Rattle.cap_matrix.specs.Grid.{Grid, IsMatrixOf, entry}
use Rattle.cap_matrix.specs.Reduced.{IsInSpan, IsSolution}
use Rattle.cap_laws.specs.Systems.{Nth}
use Rattle.cap_laws.specs.declared.values.Term.{Term}
use Rattle.cap_laws.specs.declared.values.Equation.{Equation}
use Rattle.cap_vec_laws.specs.Systems.{cells_of, width_of}

-- what entry (r, s) of unknown u is multiplied by in entry (q, t) of a sum of terms: a term l·X·r in X = u gives entry (q, r) of l times entry (s, t) of r
abbrev pub coefficient : ℕ → List (Term Grid) → ℕ → ℕ → ℕ → ℕ → ℕ
coefficient u ts r s q t = sum_by (λ (x : Term Grid). if x.unknown == u then entry x.left.entries q r * entry x.right.entries s t else 0) ts

-- m has a block for each unknown, one under the other, in each equation, one beside the other: a row for each entry of the unknown, a column for each entry of the value
pub record IsSystemMatrix (p : ℕ) (us : List (ℕ × ℕ)) (es : List (Equation Grid)) (m : Grid) : Type 0 where
  pub matrix : IsMatrixOf p (cells_of us) (width_of es) m
  pub block : (u i : ℕ) (a : ℕ × ℕ) (e : Equation Grid) → Nth us u a → Nth es i e
      → (r s q t : ℕ) → r < a.0 → s < a.1 → q < e.value.row_count → t < e.value.column_count
      → entry m.entries (cells_of (take u us) + (r * a.1 + s)) (width_of (take i es) + (q * e.value.column_count + t)) ≡ coefficient u e.terms r s q t % p

-- v has the entries of the values
pub record IsValuesRow (es : List (Equation Grid)) (v : List ℕ) : Type 0 where
  pub long : length v ≡ width_of es
  pub value : (i : ℕ) (e : Equation Grid) → Nth es i e → (q t : ℕ) → q < e.value.row_count → t < e.value.column_count
      → slice_index v (width_of (take i es) + (q * e.value.column_count + t)) ≡ entry e.value.entries q t

-- y is cut into the matrices xs: one for each unknown, with its ends, whose entries are its numbers of y
pub record IsCut (p : ℕ) (us : List (ℕ × ℕ)) (y : List ℕ) (xs : List Grid) : Type 0 where
  pub many : length xs ≡ length us
  pub matrix : (u : ℕ) (a : ℕ × ℕ) (x : Grid) → Nth us u a → Nth xs u x → IsMatrixOf p a.0 a.1 x
  pub part : (u : ℕ) (a : ℕ × ℕ) (x : Grid) → Nth us u a → Nth xs u x → (r s : ℕ) → r < a.0 → s < a.1
      → entry x.entries r s ≡ slice_index y (cells_of (take u us) + (r * a.1 + s))

-- the canonical solution of y·m = v, cut into the unknowns, or none exactly where there is none
abbrev pub IsCanonicalAnswer : ℕ → List (ℕ × ℕ) → Grid → List ℕ → Option (List Grid) → Type 0
IsCanonicalAnswer p us m v (Some xs) = (y : List ℕ) × IsSolution m v y × IsCut p us y xs
IsCanonicalAnswer p us m v None = IsInSpan m v → ⊥
