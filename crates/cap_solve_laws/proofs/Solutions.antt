-- The canonical answer of a system, and that it is one.
use Rattle.std.proofs.Common.{◌≡◌, ℕ, suc, ◌<◌, List, [], ◌∷◌, length, get_or, Option, refl, sym, ap, ◌∙◌, subst, arith}
use Rattle.std.specs.Prelude.{Some, None}
use Rattle.cap_matrix.specs.Grid.{IsMatrixOf, row_times}
use Rattle.cap_matrix.specs.Reduced.{IsInSpan, IsObstruction}
use Rattle.cap_reduce.proofs.Decided.{obstruction_refutes}
use Rattle.cap_laws.specs.Linear.{CategoryData, IsLinear, Arrow}
use Rattle.cap_laws.specs.Systems.{Nth, Ends, IsSystem, IsSolution, AnswersSystem}
use Rattle.cap_laws.specs.Systems.Nth.{here, further}
use Rattle.cap_laws.specs.declared.values.System.{System}
use Rattle.cap_homlaw.specs.Rows.{AreResidues}
use Rattle.cap_homlaw.specs.Hom.{HomData, IsHom}
use Rattle.cap_solve_laws.specs.Systems.{values_width, unknowns_width, system_matrix, values_row, unknowns_row, morphisms_of}
use Rattle.cap_solve_laws.specs.Answers.{IsRowAnswer, IsCanonicalAnswer}
use Rattle.cap_solve_laws.proofs.Equations.{AreArrows, AreEquations, unknowns-residues, values-residues, system-matrix, solved-row, row-solved, morphisms-are, morphisms-row}
use Rattle.cap_solve_laws.proofs.Equations.AreArrows.{none, one}
use Rattle.cap_solve_laws.proofs.Solver.{solution_row, solution_row-is}

-- the morphisms of a solution, and those that are one
pub arrows-of : {Obj Mor : Type 0} {C : CategoryData Obj Mor} (us : List (Obj × Obj)) (xs : List Mor) → length xs ≡ length us
    → ((n : ℕ) (x : Mor) (e : Ends us n) → Nth xs n x → Arrow C e.from e.to x) → AreArrows C us xs
arrows-of [] [] l h = none
arrows-of [] (x ∷ xs) l h = absurd (omega (arith, l))
arrows-of (u ∷ us) [] l h = absurd (omega (arith, l))
arrows-of (u ∷ us) (x ∷ xs) l h =
    one (h 0 x (record { from = u.0; to = u.1; is = here }) here)
    (arrows-of us xs (omega (arith, l)) (λ n y e q. h (suc n) y (record { from = e.from; to = e.to; is = further e.is }) (further q)))

pub arrow-at : {Obj Mor : Type 0} {C : CategoryData Obj Mor} {n : ℕ} {a b : Obj} {us : List (Obj × Obj)} {xs : List Mor} {x : Mor} → AreArrows C us xs → Nth us n (a, b) → Nth xs n x → Arrow C a b x
arrow-at none q r = elim q [ ]
arrow-at (one X h) here here = X
arrow-at (one X h) (further q) (further r) = arrow-at h q r

same-many : {Obj Mor : Type 0} {C : CategoryData Obj Mor} {us : List (Obj × Obj)} {xs : List Mor} → AreArrows C us xs → length xs ≡ length us
same-many none = refl
same-many (one X h) = ap suc (same-many h)

-- the morphisms whose coefficients are a row, or none
abbrev pub morphisms_of_answer : {Obj Mor : Type 0} → HomData Obj Mor → List (Obj × Obj) → Option (List ℕ) → Option (List Mor)
morphisms_of_answer H us (Some row) = Some (morphisms_of H us row)
morphisms_of_answer H us None = None

-- the canonical answer of a system: that of its row equation
abbrev pub solution_of : {Obj Mor : Type 0} → CategoryData Obj Mor → HomData Obj Mor → System Obj Mor → Option (List Mor)
solution_of C H s = morphisms_of_answer H s.unknowns (solution_row C.prime (system_matrix C H s.unknowns s.equations) (values_row H s.equations))

module _ {Obj Mor : Type 0} {C : CategoryData Obj Mor} {H : HomData Obj Mor} (L : IsLinear C) (S : IsHom C H) (s : System Obj Mor) (I : IsSystem C s) where
  pub are-equations : AreEquations C s.unknowns s.equations
  are-equations = record { each = I.equations }

  pub matrix-is : IsMatrixOf C.prime (unknowns_width H s.unknowns) (values_width C H s.equations) (system_matrix C H s.unknowns s.equations)
  matrix-is = system-matrix L S s.unknowns s.equations are-equations

  pub values-are : AreResidues C.prime (values_width C H s.equations) (values_row H s.equations)
  values-are = values-residues L S s.unknowns s.equations are-equations

  -- morphisms solve the system exactly where their row, times the matrix, is the row of the values
  pub solution-from-row : (xs : List Mor) → AreArrows C s.unknowns xs → row_times (unknowns_row H xs) (system_matrix C H s.unknowns s.equations) ≡ values_row H s.equations → IsSolution C s xs
  solution-from-row xs X w = record {
    count = same-many X;
    arrows = λ n x e q. arrow-at X e.is q;
    equations = λ n e q. row-solved L S s.unknowns xs s.equations X are-equations w n e q;
  }

  pub arrows-of-solution : (xs : List Mor) → IsSolution C s xs → AreArrows C s.unknowns xs
  arrows-of-solution xs T = arrows-of s.unknowns xs T.count T.arrows

  pub row-from-solution : (xs : List Mor) → IsSolution C s xs → row_times (unknowns_row H xs) (system_matrix C H s.unknowns s.equations) ≡ values_row H s.equations
  row-from-solution xs T = solved-row L S s.unknowns xs s.equations (arrows-of-solution xs T) are-equations T.equations

  -- so a solution puts the row of the values into the span
  pub span-from-solution : (xs : List Mor) → IsSolution C s xs → IsInSpan (system_matrix C H s.unknowns s.equations) (values_row H s.equations)
  span-from-solution xs T = (
    unknowns_row H xs,
    (unknowns-residues L S (arrows-of-solution xs T)).long ∙ sym matrix-is.from,
    sym (row-from-solution xs T),
  )

  -- the morphisms of a row that gives the values are a solution
  pub solution-of-row : (x : List ℕ) → AreResidues C.prime (unknowns_width H s.unknowns) x → row_times x (system_matrix C H s.unknowns s.equations) ≡ values_row H s.equations → IsSolution C s (morphisms_of H s.unknowns x)
  solution-of-row x R w =
      solution-from-row (morphisms_of H s.unknowns x) (morphisms-are L S s.unknowns x I.unknowns R)
      (ap (λ row. row_times row (system_matrix C H s.unknowns s.equations)) (morphisms-row L S s.unknowns x I.unknowns R) ∙ w)

  row-answer : (o : Option (List ℕ)) → IsRowAnswer (system_matrix C H s.unknowns s.equations) (values_row H s.equations) o → AnswersSystem C s (morphisms_of_answer H s.unknowns o)
  row-answer (Some x) r = solution-of-row x
      (record {
        long = r.long ∙ matrix-is.from;
        residues = λ k lt. subst (λ p. get_or x k 0 < p) matrix-is.is.prime (r.residues k (omega (arith, lt, matrix-is.from)));
      })
      r.gives
  row-answer None r = λ xs T. r (span-from-solution xs T)

  -- the canonical answer is a solution, or none exactly where there is none
  pub solution-answers : AnswersSystem C s (solution_of C H s)
  solution-answers = row-answer (solution_row C.prime (system_matrix C H s.unknowns s.equations) (values_row H s.equations))
      (solution_row-is C.prime (system_matrix C H s.unknowns s.equations) (values_row H s.equations) L.prime_tabled matrix-is.is
      (record { long = values-are.long ∙ sym matrix-is.to; residues = λ k lt. values-are.residues k (omega (arith, lt, matrix-is.to)) }))

  -- and it is that of the row equation
  pub solution-canonical : IsCanonicalAnswer C H s (solution_of C H s)
  solution-canonical = cut-answer (solution_row C.prime (system_matrix C H s.unknowns s.equations) (values_row H s.equations))
      (solution_row-is C.prime (system_matrix C H s.unknowns s.equations) (values_row H s.equations) L.prime_tabled matrix-is.is
      (record { long = values-are.long ∙ sym matrix-is.to; residues = λ k lt. values-are.residues k (omega (arith, lt, matrix-is.to)) }))
    where
      cut-answer : (o : Option (List ℕ)) → IsRowAnswer (system_matrix C H s.unknowns s.equations) (values_row H s.equations) o → IsCanonicalAnswer C H s (morphisms_of_answer H s.unknowns o)
      cut-answer (Some x) r = (x, r, refl)
      cut-answer None r = r

  -- an obstruction of the row equation refutes the system
  pub obstruction-refutes : (y : List ℕ) → IsObstruction (system_matrix C H s.unknowns s.equations) (values_row H s.equations) y → (xs : List Mor) → IsSolution C s xs → ⊥
  obstruction-refutes y o xs T = obstruction_refutes (system_matrix C H s.unknowns s.equations) (values_row H s.equations) y o (span-from-solution xs T)

  -- so where there is one, the canonical answer is none
  pub obstructed-none : (y : List ℕ) → IsObstruction (system_matrix C H s.unknowns s.equations) (values_row H s.equations) y → None ≡ solution_of C H s
  obstructed-none y o = none-of (solution_of C H s) solution-answers
    where
      none-of : (q : Option (List Mor)) → AnswersSystem C s q → None ≡ q
      none-of (Some xs) T = absurd (obstruction-refutes y o xs T)
      none-of None T = refl
