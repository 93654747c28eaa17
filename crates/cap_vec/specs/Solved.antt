-- What the steps of a lift answer.
use Rattle.std.specs.Prelude.{◌≡◌, ℕ, ◌*◌, List, length, Option, Some, None, Result, Ok, Err}
use Rattle.cap_matrix.specs.Grid.{Grid}
use Rattle.cap_matrix.specs.Buffer.{matrix_of}
use Rattle.cap_laws.specs.declared.faults.CatFault.{CatFault}
use Rattle.cap_laws.specs.declared.faults.CatFault.TheVariants.{NoMemory}
use Rattle.cap_vec_laws.specs.Laws.{IsRowSolution, IsRowLift}

-- a flat buffer of the canonical lift of x along f
pub record IsLiftBuffer (x f : Grid) (cells : List ℕ) : Type 0 where
  pub long : length cells ≡ x.row_count * f.row_count
  pub rows : IsRowSolution x f (matrix_of f.prime x.row_count f.row_count cells)

-- such a buffer, or none exactly where some row of x is outside the span, or want of memory
abbrev pub AreRowsSolved : Grid → Grid → Result (Option (List ℕ)) CatFault → Type 0
AreRowsSolved x f (Ok (Some cells)) = IsLiftBuffer x f cells
AreRowsSolved x f (Ok None) = IsRowLift x f None
AreRowsSolved x f (Err e) = e ≡ NoMemory
