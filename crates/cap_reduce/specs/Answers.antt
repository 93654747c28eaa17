-- What the calls answer.
use Rattle.std.specs.Prelude.{◌≡◌, ◌⊎◌, ℕ, ◌-◌, ◌*◌, ◌<◌, ◌≤◌, List, length, slice_index, Result, Ok, Err, false}
use Rattle.std.specs.List.{Contains}
use Rattle.cap_matrix.specs.Grid.{Grid, row_by, zero_of, stacked_of, fits_limits}
use Rattle.cap_matrix.specs.Reduced.{IsReducedForm, IsNullBasis, IsRedundant, IsInSpan, IsSolution, IsObstruction}
use Rattle.cap_reduce.specs.Flat.{cell}
use Rattle.cap_reduce.specs.declared.solving.Solved.{Solved}
use Rattle.cap_reduce.specs.declared.solving.Solved.TheVariants.{Row, Obstruction}
use Rattle.cap_reduce.specs.declared.solving.SolvedRows.{SolvedRows}
use Rattle.cap_reduce.specs.declared.solving.SolvedRows.TheVariants.{All, Unsolved}
use Rattle.cap_names.specs.declared.faults.TooLarge.{TooLarge}
use Rattle.cap_matrix.specs.declared.MatrixFault.{MatrixFault}
use Rattle.cap_matrix.specs.declared.MatrixFault.TheVariants.{TooLarge as TooLargeFault, NoMemory}

-- the null-row basis of m does not keep the limits, and this is its size
pub record IsLargeNullBasis (m : Grid) (size : TooLarge) : Type 0 where
  pub basis : Grid
  pub is : IsNullBasis m basis
  pub rows : size.rows ≡ basis.row_count
  pub cols : size.cols ≡ basis.column_count
  pub large : fits_limits basis.row_count basis.column_count ≡ false

-- the null-row basis of m, or its size where that is past the limits, or want of memory
abbrev pub IsNullRows : Grid → Result Grid MatrixFault → Type 0
IsNullRows m (Ok k) = IsNullBasis m k
IsNullRows m (Err (TooLargeFault size)) = IsLargeNullBasis m size
IsNullRows m (Err NoMemory) = Unit {0}

-- m is replaced by the rows of its reduced form, `rank` of them, above zero rows
pub record IsReducedInPlace (m new : Grid) (rank : ℕ) : Type 0 where
  pub form : Grid
  pub is : IsReducedForm m form
  pub rows : form.row_count ≡ rank
  pub few : rank ≤ m.row_count
  pub above : new ≡ stacked_of form (zero_of m.prime (m.row_count - rank) m.column_count)

-- the rows of m that are no combination of those before them, in order
pub record IsGreedy (m : Grid) (rows : List ℕ) : Type 0 where
  pub inside : (k : ℕ) → k < length rows → slice_index rows k < m.row_count
  pub rising : (k l : ℕ) → k < l → l < length rows → slice_index rows k < slice_index rows l
  pub decided : (i : ℕ) → i < m.row_count → (Contains rows i × ¬ IsRedundant m i) ⊎ (¬ Contains rows i × IsRedundant m i)

-- the canonical solution, or an obstruction
abbrev pub IsSolved : Grid → List ℕ → Solved → Type 0
IsSolved m v (Row x) = IsSolution m v x
IsSolved m v (Obstruction y) = IsObstruction m v y

-- xs holds the canonical solutions for the first k rows of t, one after the other
pub record AreSolutions (m : Grid) (k : ℕ) (t : ℕ → List ℕ) (xs : List ℕ) : Type 0 where
  pub long : length xs ≡ k * m.row_count
  pub each : (i : ℕ) → i < k → IsSolution m (t i) (row_by m.row_count (cell xs m.row_count i))

-- row i is the first of the first k rows of t that is not in the span
pub record IsFirstOutside (m : Grid) (k : ℕ) (t : ℕ → List ℕ) (i : ℕ) : Type 0 where
  pub inside : i < k
  pub outside : IsInSpan m (t i) → ⊥
  pub before : (l : ℕ) → l < i → IsInSpan m (t l)

-- the canonical solutions for the first k rows of t, or the first of them that has none
abbrev pub AreSolved : Grid → ℕ → (ℕ → List ℕ) → SolvedRows → Type 0
AreSolved m k t (All xs) = AreSolutions m k t xs
AreSolved m k t (Unsolved i) = IsFirstOutside m k t i
