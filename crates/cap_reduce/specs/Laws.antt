-- The laws of reduced matrices, null rows and solutions, as statements.
use Rattle.std.specs.Prelude.{◌≡◌, ◌⊎◌, ℕ, ◌+◌, ◌<◌, ◌≤◌, ◌↔◌, true, List, length, slice_index}
use Rattle.cap_field.specs.Residue.{is_tabled}
use Rattle.cap_matrix.specs.Grid.{Grid, IsMatrix}
use Rattle.cap_matrix.specs.Reduced.{IsInSpan, IsReduced, IsReducedForm, IsNullBasis, IsSolution, IsObstruction}
use Rattle.cap_reduce.specs.Answers.{IsGreedy}
use Rattle.cap_matrix.specs.Kernel.{IsKernelOf}

-- two reduced matrices with one prime, as many columns and one span are equal
abbrev pub OneReducedMatrix : Type 0
OneReducedMatrix = (g h : Grid) → 2 ≤ g.prime → g.prime ≡ h.prime → g.column_count ≡ h.column_count → IsReduced g → IsReduced h
    → ((v : List ℕ) → IsInSpan g v ↔ IsInSpan h v) → g ≡ h

-- each matrix over a prime of the table has a reduced form, whatever its size
pub record HasReducedForm (m : Grid) : Type 0 where
  pub form : Grid
  pub is : IsReducedForm m form

abbrev pub ReducedFormExists : Type 0
ReducedFormExists = (p : ℕ) → is_tabled p ≡ true → (m : Grid) → IsMatrix p m → HasReducedForm m

-- and no other
abbrev pub OneReducedForm : Type 0
OneReducedForm = (p : ℕ) → 2 ≤ p → (m r s : Grid) → IsMatrix p m → IsReducedForm m r → IsReducedForm m s → r ≡ s

-- each matrix over a prime of the table has a null-row basis, whatever its size
pub record HasNullBasis (m : Grid) : Type 0 where
  pub basis : Grid
  pub is : IsNullBasis m basis

abbrev pub NullBasisExists : Type 0
NullBasisExists = (p : ℕ) → is_tabled p ≡ true → (m : Grid) → IsMatrix p m → HasNullBasis m

-- and no other
abbrev pub OneNullBasis : Type 0
OneNullBasis = (p : ℕ) → 2 ≤ p → (m n k : Grid) → IsMatrix p m → IsNullBasis m n → IsNullBasis m k → n ≡ k

-- the null-row basis of a matrix is a kernel of it
abbrev pub NullBasisIsKernel : Type 0
NullBasisIsKernel = (p : ℕ) → 2 ≤ p → (f k : Grid) → IsMatrix p f → IsNullBasis f k → IsKernelOf f k

-- where x·m = v has a solution there is a canonical one
pub record HasSolution (m : Grid) (v : List ℕ) : Type 0 where
  pub row : List ℕ
  pub is : IsSolution m v row

abbrev pub SolutionExists : Type 0
SolutionExists = (p : ℕ) → is_tabled p ≡ true → (m : Grid) (v : List ℕ) → IsMatrix p m → IsInSpan m v → HasSolution m v

-- and no other
abbrev pub OneSolution : Type 0
OneSolution = (p : ℕ) → is_tabled p ≡ true → (m : Grid) (v x y : List ℕ) → IsMatrix p m → IsSolution m v x → IsSolution m v y → x ≡ y

-- where there is an obstruction there is no solution
abbrev pub ObstructionRefutes : Type 0
ObstructionRefutes = (m : Grid) (v y : List ℕ) → IsObstruction m v y → IsInSpan m v → ⊥

-- each row of residues is x·m for some x, or is obstructed
pub record HasObstruction (m : Grid) (v : List ℕ) : Type 0 where
  pub column : List ℕ
  pub is : IsObstruction m v column

abbrev pub SolvedOrObstructed : Type 0
SolvedOrObstructed = (p : ℕ) → is_tabled p ≡ true → (m : Grid) (v : List ℕ) → IsMatrix p m → length v ≡ m.column_count
    → ((j : ℕ) → j < m.column_count → slice_index v j < p) → IsInSpan m v ⊎ HasObstruction m v

-- the rows of the reduced form and those of the null-row basis are together as many as the rows
abbrev pub RankAndNullRows : Type 0
RankAndNullRows = (p : ℕ) → is_tabled p ≡ true → (m r n : Grid) → IsMatrix p m → IsReducedForm m r → IsNullBasis m n → r.row_count + n.row_count ≡ m.row_count

-- a matrix has one list of the rows that are no combination of those before them
abbrev pub OneGreedyList : Type 0
OneGreedyList = (m : Grid) (xs ys : List ℕ) → IsGreedy m xs → IsGreedy m ys → xs ≡ ys
