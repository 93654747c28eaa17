-- The laws of systems and of weak kernels, as statements.
use Rattle.std.specs.Prelude.{◌≡◌, ℕ, List, Option}
use Rattle.cap_matrix.specs.Grid.{row_times}
use Rattle.cap_matrix.specs.Reduced.{IsObstruction}
use Rattle.cap_laws.specs.Linear.{CategoryData, Arrow}
use Rattle.cap_laws.specs.Universal.{opposite, IsWeakKernel, IsWeakCokernel}
use Rattle.cap_laws.specs.Systems.{IsSystem, IsSolution, AnswersSystem}
use Rattle.cap_laws.specs.declared.values.System.{System}
use Rattle.cap_homlaw.specs.Rows.{AreResidues}
use Rattle.cap_homlaw.specs.Hom.{HomData, opposite_hom}
use Rattle.cap_solve_laws.specs.Systems.{system_matrix, values_row, unknowns_row, unknowns_width, morphisms_of}
use Rattle.cap_solve_laws.specs.Answers.{IsCanonicalAnswer}
use Rattle.cap_solve_laws.specs.Sums.{SumData, opposite_sums}
use Rattle.cap_solve_laws.specs.WeakKernels.{IsKeptKernel}

-- a system is the row equation x·M = v of its matrix and its values: the coefficients of a solution are such an x, such an x is the coefficients
-- of a solution, and where an obstruction shows that there is no x, there is no solution
pub record SystemIsRow {Obj Mor : Type 0} (C : CategoryData Obj Mor) (H : HomData Obj Mor) : Type 0 where
  pub row : (s : System Obj Mor) → IsSystem C s → (xs : List Mor) → IsSolution C s xs → row_times (unknowns_row H xs) (system_matrix C H s.unknowns s.equations) ≡ values_row H s.equations
  pub solved : (s : System Obj Mor) → IsSystem C s → (x : List ℕ) → AreResidues C.prime (unknowns_width H s.unknowns) x
      → row_times x (system_matrix C H s.unknowns s.equations) ≡ values_row H s.equations → IsSolution C s (morphisms_of H s.unknowns x)
  pub refuted : (s : System Obj Mor) → IsSystem C s → (y : List ℕ) → IsObstruction (system_matrix C H s.unknowns s.equations) (values_row H s.equations) y → (xs : List Mor) → IsSolution C s xs → ⊥

-- a function of data answers each system: its canonical answer, which is a solution, or none exactly where there is none
pub record HasSolver {Obj Mor : Type 0} (C : CategoryData Obj Mor) (H : HomData Obj Mor) : Type 0 where
  pub solution : System Obj Mor → Option (List Mor)
  pub canonical : (s : System Obj Mor) → IsSystem C s → IsCanonicalAnswer C H s (solution s)
  pub solves : (s : System Obj Mor) → IsSystem C s → AnswersSystem C s (solution s)

-- functions of data answer weak kernels and weak cokernels, against every test object: those by generators, redundant ones dropped in order
pub record HasWeakKernels {Obj Mor : Type 0} (C : CategoryData Obj Mor) (H : HomData Obj Mor) (Z : SumData Obj Mor) : Type 0 where
  pub kernel : Mor → Mor
  pub kernel_kept : (a b : Obj) (f : Mor) → Arrow C a b f → IsKeptKernel C H Z f (kernel f)
  pub kernel_is : (a b : Obj) (f : Mor) → Arrow C a b f → IsWeakKernel C (C.source (kernel f)) a b f (kernel f)
  pub cokernel : Mor → Mor
  pub cokernel_kept : (a b : Obj) (f : Mor) → Arrow C a b f → IsKeptKernel (opposite C) (opposite_hom H) (opposite_sums Z) f (cokernel f)
  pub cokernel_is : (a b : Obj) (f : Mor) → Arrow C a b f → IsWeakCokernel C a b (C.target (cokernel f)) f (cokernel f)
