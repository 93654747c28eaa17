-- The answers of the category of matrices are the canonical ones, whatever the sizes.
use Rattle.std.specs.Prelude.{◌≡◌, ℕ, true, List}
use Rattle.cap_field.specs.Residue.{is_tabled}
use Rattle.cap_matrix.specs.Grid.{Grid, IsMatrix}
use Rattle.cap_matrix.specs.Reduced.{IsNullBasis}
use Rattle.cap_laws.specs.Systems.{IsSystem}
use Rattle.cap_laws.specs.declared.values.System.{System}
use Rattle.cap_laws.specs.Universal.{IsPullback, IsPushout}
use Rattle.cap_vec_laws.specs.Vec.{vec_data}
use Rattle.cap_vec_laws.specs.RowEquation.{IsSystemMatrix, IsValuesRow, IsCanonicalAnswer}
use Rattle.cap_vec_laws.specs.Laws.{IsRowLift}
use Rattle.cap_vec_hom_laws.specs.Homs.{vec_hom}
use Rattle.cap_solve_laws.proofs.Solutions.{solution_of}
use Rattle.cap_vec.specs.Members.{kernel_of, lift_of}
use Rattle.cap_vec.specs.Sizes.{pullback_of, pushout_of}

-- the kernel is the null-row basis
abbrev pub KernelIsNullBasis : Type 0
KernelIsNullBasis = (p : ℕ) (t : is_tabled p ≡ true) (f : Grid) → IsMatrix p f → IsNullBasis f (kernel_of p t f)

-- the lift has the canonical solution in each row, and is none exactly where some row has no solution
abbrev pub LiftIsRowByRow : Type 0
LiftIsRowByRow = (p : ℕ) (t : is_tabled p ≡ true) (x f : Grid) → IsMatrix p x → IsMatrix p f → x.column_count ≡ f.column_count → IsRowLift x f (lift_of p t x f)

-- the pullback that is answered is one, and so is the pushout
abbrev pub PullbackIsUniversal : Type 0
PullbackIsUniversal = (p : ℕ) (t : is_tabled p ≡ true) (f g : Grid) → IsMatrix p f → IsMatrix p g → f.column_count ≡ g.column_count
    → let x = pullback_of p t f g in IsPullback (vec_data p) x.0.row_count f.row_count g.row_count f.column_count f g x.0 x.1

abbrev pub PushoutIsUniversal : Type 0
PushoutIsUniversal = (p : ℕ) (t : is_tabled p ≡ true) (f g : Grid) → IsMatrix p f → IsMatrix p g → f.row_count ≡ g.row_count
    → let x = pushout_of p t f g in IsPushout (vec_data p) f.row_count f.column_count g.column_count x.0.column_count f g x.0 x.1

-- the solution of a system is its canonical answer: for the matrix and the row of values that have its blocks, the canonical solution, cut into the unknowns, or none exactly where there is none
abbrev pub SolutionIsCanonical : Type 0
SolutionIsCanonical = (p : ℕ) (t : is_tabled p ≡ true) (s : System ℕ Grid) → IsSystem (vec_data p) s
    → (m : Grid) (v : List ℕ) → IsSystemMatrix p s.unknowns s.equations m → IsValuesRow s.equations v → IsCanonicalAnswer p s.unknowns m v (solution_of (vec_data p) (vec_hom p) s)
