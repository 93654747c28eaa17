-- The laws of the category of matrices, as statements. Each holds for matrices of any size.
use Rattle.std.specs.Prelude.{List, ◌≡◌, ℕ, ◌<◌, ◌↔◌, Option, Some, None, true, [], slice_index_or}
use Rattle.cap_field.specs.Residue.{is_tabled}
use Rattle.cap_matrix.specs.Grid.{Grid, IsMatrix, row_times, transposed_of}
use Rattle.cap_matrix.specs.Reduced.{IsInSpan, IsNullBasis, IsSolution}
use Rattle.cap_matrix.specs.Kernel.{IsKernelOf}
use Rattle.cap_laws.specs.Linear.{IsLinear}
use Rattle.cap_laws.specs.Universal.{IsKernel, IsCokernel, IsLift, IsColift, IsAbelian, IsPullback, IsPushout}
use Rattle.cap_laws.specs.Systems.{IsSystem, AnswersSystem}
use Rattle.cap_laws.specs.declared.values.System.{System}
use Rattle.cap_vec_laws.specs.RowEquation.{IsSystemMatrix, IsValuesRow, IsCanonicalAnswer}
use Rattle.cap_vec_laws.specs.Vec.{map_option, vec_data, first_columns, last_columns, stacked_difference}

-- matrices modulo a prime of the table are a linear category
abbrev pub VecLinear : Type 0
VecLinear = (p : ℕ) → is_tabled p ≡ true → IsLinear (vec_data p)

-- and an abelian one
abbrev pub VecAbelian : Type 0
VecAbelian = (p : ℕ) → is_tabled p ≡ true → IsAbelian (vec_data p)

-- a kernel among matrices, said in plain matrices, is a kernel in the category of matrices, and conversely
abbrev pub KernelInPlainMatrices : Type 0
KernelInPlainMatrices = (p : ℕ) → is_tabled p ≡ true → (f k : Grid) → IsMatrix p f → IsKernelOf f k ↔ IsKernel (vec_data p) k.row_count f.row_count f.column_count f k

-- the null-row basis is a kernel, and the transpose of that of the transpose is a cokernel
abbrev pub NullBasisIsKernel : Type 0
NullBasisIsKernel = (p : ℕ) → is_tabled p ≡ true → (m n : Grid) → IsMatrix p m → IsNullBasis m n → IsKernel (vec_data p) n.row_count m.row_count m.column_count m n

abbrev pub NullBasisIsCokernel : Type 0
NullBasisIsCokernel = (p : ℕ) → is_tabled p ≡ true → (m n : Grid) → IsMatrix p m → IsNullBasis (transposed_of m) n
    → IsCokernel (vec_data p) m.row_count m.column_count n.row_count m (transposed_of n)

-- the null-row basis of f above −g, cut after the columns of f's source, is a pullback
abbrev pub PullbackByNullBasis : Type 0
PullbackByNullBasis = (p : ℕ) → is_tabled p ≡ true → (f g n : Grid) → IsMatrix p f → IsMatrix p g → f.column_count ≡ g.column_count
    → IsNullBasis (stacked_difference f g) n
    → IsPullback (vec_data p) n.row_count f.row_count g.row_count f.column_count f g (first_columns f.row_count n) (last_columns f.row_count g.row_count n)

-- and the transposes of those of f' and g' are a pushout
abbrev pub PushoutByNullBasis : Type 0
PushoutByNullBasis = (p : ℕ) → is_tabled p ≡ true → (f g n : Grid) → IsMatrix p f → IsMatrix p g → f.row_count ≡ g.row_count
    → IsNullBasis (stacked_difference (transposed_of f) (transposed_of g)) n
    → IsPushout (vec_data p) f.row_count f.column_count g.column_count n.row_count f g
    (transposed_of (first_columns f.column_count n)) (transposed_of (last_columns f.column_count g.column_count n))

-- a lift is found row by row, and there is none where some row is outside the span
abbrev pub LiftByRows : Type 0
LiftByRows = (p : ℕ) → is_tabled p ≡ true → (t f u : Grid) → IsMatrix p t → IsMatrix p f → IsMatrix p u
    → t.column_count ≡ f.column_count → u.row_count ≡ t.row_count → u.column_count ≡ f.row_count
    → ((i : ℕ) → i < t.row_count → row_times (slice_index_or u.entries i []) f ≡ slice_index_or t.entries i [])
    → IsLift (vec_data p) t.row_count f.row_count f.column_count t f (Some u)

abbrev pub NoLiftByRow : Type 0
NoLiftByRow = (p : ℕ) → (t f : Grid) → IsMatrix p t → IsMatrix p f → t.column_count ≡ f.column_count
    → (i : ℕ) → i < t.row_count → (IsInSpan f (slice_index_or t.entries i []) → ⊥)
    → IsLift (vec_data p) t.row_count f.row_count f.column_count t f None

-- the rows of u are the canonical solutions for the rows of t
pub record IsRowSolution (t f u : Grid) : Type 0 where
  pub shaped : IsMatrix f.prime u
  pub high : u.row_count ≡ t.row_count
  pub wide : u.column_count ≡ f.row_count
  pub rows : (i : ℕ) → i < t.row_count → IsSolution f (slice_index_or t.entries i []) (slice_index_or u.entries i [])

-- the canonical lift, row by row, or none exactly where some row is outside the span
abbrev pub IsRowLift : Grid → Grid → Option Grid → Type 0
IsRowLift t f (Some u) = IsRowSolution t f u
IsRowLift t f None = (i : ℕ) × (i < t.row_count) × (IsInSpan f (slice_index_or t.entries i []) → ⊥)

-- each two matrices with one target have a canonical lift or none
abbrev pub RowLiftExists : Type 0
RowLiftExists = (p : ℕ) → is_tabled p ≡ true → (t f : Grid) → IsMatrix p t → IsMatrix p f → t.column_count ≡ f.column_count
    → (o : Option Grid) × IsRowLift t f o

-- it is a lift
abbrev pub RowLiftIsLift : Type 0
RowLiftIsLift = (p : ℕ) → is_tabled p ≡ true → (t f : Grid) (o : Option Grid) → IsMatrix p t → IsMatrix p f → t.column_count ≡ f.column_count → IsRowLift t f o
    → IsLift (vec_data p) t.row_count f.row_count f.column_count t f o

-- and the only one
abbrev pub OneRowLift : Type 0
OneRowLift = (p : ℕ) → is_tabled p ≡ true → (t f : Grid) (o q : Option Grid) → IsMatrix p t → IsMatrix p f → t.column_count ≡ f.column_count → IsRowLift t f o → IsRowLift t f q → o ≡ q

-- the transpose of a lift of t' along f' is a colift
abbrev pub ColiftByTransposes : Type 0
ColiftByTransposes = (p : ℕ) → is_tabled p ≡ true → (t f : Grid) (o : Option Grid) → IsMatrix p t → IsMatrix p f → t.row_count ≡ f.row_count
    → IsLift (vec_data p) t.column_count f.column_count f.row_count (transposed_of t) (transposed_of f) o
    → IsColift (vec_data p) f.row_count f.column_count t.column_count f t (map_option transposed_of o)

-- canonical kernels and lifts as functions of data alone
pub record HasMembers (p : ℕ) : Type 0 where
  pub kernel : Grid → Grid
  pub lift : Grid → Grid → Option Grid
  pub basis : (m : Grid) → IsMatrix p m → IsNullBasis m (kernel m)
  pub lift_rows : (t f : Grid) → IsMatrix p t → IsMatrix p f → t.column_count ≡ f.column_count → IsRowLift t f (lift t f)

abbrev pub MembersExist : Type 0
MembersExist = (p : ℕ) → is_tabled p ≡ true → HasMembers p

-- a system is one row equation: there is one matrix and one row of values that have its blocks
pub record HasRowEquation (p : ℕ) (s : System ℕ Grid) : Type 0 where
  pub matrix : Grid
  pub values : List ℕ
  pub is_matrix : IsSystemMatrix p s.unknowns s.equations matrix
  pub is_values : IsValuesRow s.equations values
  pub one_matrix : (m : Grid) → IsSystemMatrix p s.unknowns s.equations m → m ≡ matrix
  pub one_row : (v : List ℕ) → IsValuesRow s.equations v → v ≡ values

abbrev pub RowEquationExists : Type 0
RowEquationExists = (p : ℕ) → is_tabled p ≡ true → (s : System ℕ Grid) → IsSystem (vec_data p) s → HasRowEquation p s

-- its canonical solution, cut into the unknowns, answers the system
abbrev pub CanonicalAnswers : Type 0
CanonicalAnswers = (p : ℕ) → is_tabled p ≡ true → (s : System ℕ Grid) → IsSystem (vec_data p) s
    → (m : Grid) (v : List ℕ) → IsSystemMatrix p s.unknowns s.equations m → IsValuesRow s.equations v
    → (o : Option (List Grid)) → IsCanonicalAnswer p s.unknowns m v o → AnswersSystem (vec_data p) s o

-- and there is one canonical answer
abbrev pub OneCanonicalAnswer : Type 0
OneCanonicalAnswer = (p : ℕ) → is_tabled p ≡ true → (us : List (ℕ × ℕ)) (m : Grid) (v : List ℕ) → IsMatrix p m
    → (o q : Option (List Grid)) → IsCanonicalAnswer p us m v o → IsCanonicalAnswer p us m v q → o ≡ q

-- a function of data that answers each system of linear equations between matrices by its canonical solution: a solution, or none exactly where there is none
pub record HasSolver (p : ℕ) : Type 0 where
  pub solution : System ℕ Grid → Option (List Grid)
  pub solves : (s : System ℕ Grid) → IsSystem (vec_data p) s → AnswersSystem (vec_data p) s (solution s)
  pub canonical : (s : System ℕ Grid) → IsSystem (vec_data p) s → (m : Grid) (v : List ℕ) → IsSystemMatrix p s.unknowns s.equations m → IsValuesRow s.equations v
      → IsCanonicalAnswer p s.unknowns m v (solution s)

abbrev pub SystemsSolved : Type 0
SystemsSolved = (p : ℕ) → is_tabled p ≡ true → HasSolver p
