-- What a system has: its canonical solution, or an obstruction.
use Rattle.std.specs.Prelude.{◌≡◌, ℕ, List, Option, Some, None}
use Rattle.cap_matrix.specs.Grid.{Grid}
use Rattle.cap_matrix.specs.Reduced.{IsInSpan, IsSolution}
use Rattle.cap_laws.specs.Linear.{CategoryData}
use Rattle.cap_laws.specs.declared.values.System.{System}
use Rattle.cap_homlaw.specs.Hom.{HomData}
use Rattle.cap_solve_laws.specs.Systems.{system_matrix, values_row, morphisms_of}

-- the solution of x·m = v that is 0 at each row in the span of the rows before it, or none exactly where there is no solution
abbrev pub IsRowAnswer : Grid → List ℕ → Option (List ℕ) → Type 0
IsRowAnswer m v (Some x) = IsSolution m v x
IsRowAnswer m v None = IsInSpan m v → ⊥

-- the canonical answer of a system: the morphisms of the canonical solution of its row equation, or none exactly where there is no solution of it
abbrev pub IsCanonicalAnswer : {Obj Mor : Type 0} → CategoryData Obj Mor → HomData Obj Mor → System Obj Mor → Option (List Mor) → Type 0
IsCanonicalAnswer C H s (Some xs) = (x : List ℕ) × IsSolution (system_matrix C H s.unknowns s.equations) (values_row H s.equations) x × (xs ≡ morphisms_of H s.unknowns x)
IsCanonicalAnswer C H s None = IsInSpan (system_matrix C H s.unknowns s.equations) (values_row H s.equations) → ⊥
