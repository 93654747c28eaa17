-- The answer of a system from that of its row equation.
use Rattle.std.proofs.Common.{◌≡◌, ℕ, ◌<◌, List, get_or, sym, ap, ◌∙◌, subst, arith}
use Rattle.std.specs.Prelude.{Some, None}
use Rattle.cap_matrix.specs.Reduced.{IsSolution, IsObstruction}
use Rattle.cap_reduce.proofs.Decided.{obstruction_refutes}
use Rattle.cap_laws.specs.Answers.{Size, Fits}
use Rattle.cap_laws.specs.Linear.{CategoryData, IsLinear}
use Rattle.cap_laws.specs.Systems.{IsSystem}
use Rattle.cap_laws.specs.declared.values.System.{System}
use Rattle.cap_homlaw.specs.Rows.{AreResidues}
use Rattle.cap_homlaw.specs.Hom.{HomData, IsHom}
use Rattle.cap_homlaw.specs.Meets.{HomMeets}
use Rattle.cap_solve_laws.specs.Systems.{unknowns_width, system_matrix, values_row, morphisms_of}
use Rattle.cap_solve_laws.proofs.Solver.{solution_row, solution_row-is, one_answer}
use Rattle.cap_solve_laws.proofs.Solutions.{solution_of, morphisms_of_answer, matrix-is, values-are}
use Rattle.cap_solve.specs.Sizes.{IsSizeInMorphisms, IsSizeInAnswer}

module _ {Obj Mor : Type 0} {C : CategoryData Obj Mor} {H : HomData Obj Mor} (L : IsLinear C) (S : IsHom C H) (s : System Obj Mor) (I : IsSystem C s) where
  pub row-values : AreResidues C.prime (system_matrix C H s.unknowns s.equations).column_count (values_row H s.equations)
  row-values =
      let M = matrix-is L S s I in
      let V = values-are L S s I in
      record { long = V.long ∙ sym M.to; residues = λ k lt. V.residues k (omega (arith, lt, M.to)) }

  pub matrix-prime : (system_matrix C H s.unknowns s.equations).prime ≡ C.prime
  matrix-prime = (matrix-is L S s I).is.prime

  pub row-solution : (x : List ℕ) → IsSolution (system_matrix C H s.unknowns s.equations) (values_row H s.equations) x → Some x ≡ solution_row C.prime (system_matrix C H s.unknowns s.equations) (values_row H s.equations)
  row-solution x r =
      let M = system_matrix C H s.unknowns s.equations in
      let v = values_row H s.equations in
      one_answer C.prime M v (Some x) (solution_row C.prime M v) L.prime_tabled (matrix-is L S s I).is r (solution_row-is C.prime M v L.prime_tabled (matrix-is L S s I).is row-values)

  pub row-none : (y : List ℕ) → IsObstruction (system_matrix C H s.unknowns s.equations) (values_row H s.equations) y → None ≡ solution_row C.prime (system_matrix C H s.unknowns s.equations) (values_row H s.equations)
  row-none y o =
      let M = system_matrix C H s.unknowns s.equations in
      let v = values_row H s.equations in
      one_answer C.prime M v None (solution_row C.prime M v) L.prime_tabled (matrix-is L S s I).is (obstruction_refutes M v y o) (solution_row-is C.prime M v L.prime_tabled (matrix-is L S s I).is row-values)

  pub row-unknowns : (x : List ℕ) → IsSolution (system_matrix C H s.unknowns s.equations) (values_row H s.equations) x → AreResidues C.prime (unknowns_width H s.unknowns) x
  row-unknowns x r =
      let M = matrix-is L S s I in
      record { long = r.long ∙ M.from; residues = λ k lt. subst (λ p. get_or x k 0 < p) M.is.prime (r.residues k (omega (arith, lt, M.from))) }

  pub solved-is : (x : List ℕ) (xs : List Mor) → IsSolution (system_matrix C H s.unknowns s.equations) (values_row H s.equations) x → xs ≡ morphisms_of H s.unknowns x → solution_of C H s ≡ Some xs
  solved-is x xs r e = ap (morphisms_of_answer H s.unknowns) (sym (row-solution x r)) ∙ ap Some (sym e)

  -- the sizes of its morphisms
  pub answer-met : (W : HomMeets Obj Mor) (x : List ℕ) → IsSolution (system_matrix C H s.unknowns s.equations) (values_row H s.equations) x → (z : Size) → IsSizeInMorphisms W H s.unknowns x z
      → IsSizeInAnswer W H s.unknowns (solution_row C.prime (system_matrix C H s.unknowns s.equations) (values_row H s.equations)) z
  answer-met W x r z m = subst (λ o. IsSizeInAnswer W H s.unknowns o z) (row-solution x r) m

  pub answer-meets : (W : HomMeets Obj Mor) (x : List ℕ) → IsSolution (system_matrix C H s.unknowns s.equations) (values_row H s.equations) x → (z : Size)
      → IsSizeInAnswer W H s.unknowns (solution_row C.prime (system_matrix C H s.unknowns s.equations) (values_row H s.equations)) z → IsSizeInMorphisms W H s.unknowns x z
  answer-meets W x r z m = subst (λ o. IsSizeInAnswer W H s.unknowns o z) (sym (row-solution x r)) m

  pub none-meets : (W : HomMeets Obj Mor) (y : List ℕ) → IsObstruction (system_matrix C H s.unknowns s.equations) (values_row H s.equations) y → (z : Size)
      → IsSizeInAnswer W H s.unknowns (solution_row C.prime (system_matrix C H s.unknowns s.equations) (values_row H s.equations)) z → Fits z
  none-meets W y o z m = absurd (subst (λ q. IsSizeInAnswer W H s.unknowns q z) (sym (row-none y o)) m)
