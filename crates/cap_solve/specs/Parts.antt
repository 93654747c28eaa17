-- The parts of a system.
use Rattle.std.specs.Prelude.{◌≡◌, ℕ, List}
use Rattle.cap_laws.specs.Linear.{CategoryData}
use Rattle.cap_laws.specs.Systems.{Nth, Ends}
use Rattle.cap_laws.specs.declared.values.Equation.{Equation}
use Rattle.cap_homlaw.specs.Hom.{HomData}
use Rattle.cap_solve_laws.specs.Systems.{system_matrix, values_row, unknowns_width, values_width}
use Rattle.cap_solve.specs.Blocks.{IsHeld}

-- the ends of the unknowns are objects
pub record AreEnds {Obj Mor : Type 0} (C : CategoryData Obj Mor) (us : List (Obj × Obj)) : Type 0 where
  pub each : (n : ℕ) (e : Ends us n) → C.is_object e.from × C.is_object e.to

-- the values of equations are morphisms
pub record AreValues {Obj Mor : Type 0} (C : CategoryData Obj Mor) (es : List (Equation Mor)) : Type 0 where
  pub each : (n : ℕ) (e : Equation Mor) → Nth es n e → C.is_morphism e.value

-- a buffer holds the matrix of a system, and a row is that of its values
pub record IsWritten {Obj Mor : Type 0} (C : CategoryData Obj Mor) (H : HomData Obj Mor) (us : List (Obj × Obj)) (es : List (Equation Mor)) (cells row : List ℕ) : Type 0 where
  pub matrix : IsHeld (unknowns_width H us) (values_width C H es) cells (system_matrix C H us es)
  pub values : row ≡ values_row H es
