-- What the row equation of u·k = g answers.
use Rattle.std.proofs.Common.{◌≡◌, ◌⊎◌, ℕ, true, false, List, Option, Result, refl, sym, ap, ◌∙◌, arith}
use Rattle.std.specs.Prelude.{Some, None}
use Rattle.cap_field.specs.Residue.{is_tabled}
use Rattle.cap_matrix.specs.Grid.{Grid, IsMatrix, IsMatrixOf}
use Rattle.cap_reduce.specs.Answers.{IsSolved}
use Rattle.cap_reduce.specs.declared.solving.Solved.{Solved}
use Rattle.cap_reduce.specs.declared.solving.Solved.TheVariants.{Row, Obstruction}
use Rattle.cap_reduce.proofs.Decided.{obstruction_refutes}
use Rattle.cap_laws.specs.Linear.{CategoryData, IsLinear}
use Rattle.cap_homlaw.specs.Rows.{AreResidues}
use Rattle.cap_homlaw.specs.Hom.{HomData, IsHom, hom_matrix}
use Rattle.cap_homlaw.proofs.TwoSided.{hom_matrix-matrix}
use Rattle.cap_solve_laws.proofs.Solver.{solution_row, solution_row-is, one_answer}
use Rattle.std.proofs.lemmas.Bool.{false≢true}
use Rattle.cap_laws.specs.declared.faults.CatFault.{CatFault}
use Rattle.cap_laws.specs.Answers.{Answers, Size, Fits}
use Rattle.cap_laws.proofs.Sizes.{answers-after}
use Rattle.cap_solve_laws.specs.Sums.{SumData}
use Rattle.cap_solve_laws.specs.WeakKernels.{above}
use Rattle.cap_solve_laws.proofs.WeakKernels.{kept_by}
use Rattle.cap_solve.specs.Sizes.{SumMeets, IsSizeInJoin, IsSizeInKeep}
use Rattle.cap_solve.specs.Factors.{has_row, is_row}

pub tested : (p : ℕ) (m : Grid) (v : List ℕ) → is_tabled p ≡ true → IsMatrix p m → AreResidues p m.column_count v → (a : Solved) → IsSolved m v a → is_row a ≡ has_row (solution_row p m v)
tested p m v t M V (Row x) s = ap has_row (one_answer p m v (Some x) (solution_row p m v) t M s (solution_row-is p m v t M V))
tested p m v t M V (Obstruction y) o = ap has_row (one_answer p m v None (solution_row p m v) t M (obstruction_refutes m v y o) (solution_row-is p m v t M V))

module _ {Obj Mor : Type 0} {C : CategoryData Obj Mor} {H : HomData Obj Mor} (L : IsLinear C) (S : IsHom C H) (unit k g : Mor) (U : C.is_morphism unit) (K : C.is_morphism k) (G : C.is_morphism g) (from : C.source unit ≡ C.source g) (to : C.target k ≡ C.target g) where
  pub test-matrix : IsMatrixOf C.prime (H.dim (C.target unit) (C.source k)) (H.dim (C.source g) (C.target g)) (hom_matrix C H unit k)
  test-matrix = hom_matrix-matrix L S (record { is = U; from = from; to = refl }) (record { is = K; from = refl; to = to })

  pub test-row : AreResidues C.prime (hom_matrix C H unit k).column_count (H.nu g)
  test-row =
      let R = S.nu_row (record { is = G; from = refl; to = refl }) in
      let M = test-matrix in
      record { long = R.long ∙ sym M.to; residues = λ j lt. R.residues j (omega (arith, lt, M.to)) }

-- a morphism that factors is dropped, and another is joined
pub kept-true : {Obj Mor : Type 0} (C : CategoryData Obj Mor) (Z : SumData Obj Mor) (k g : Mor) (o : Option (List ℕ)) → has_row o ≡ true → k ≡ kept_by C Z k g o
kept-true C Z k g (Some x) e = refl
kept-true C Z k g None e = absurd (false≢true e)

pub sizes-true : {Obj Mor : Type 0} (V : SumMeets Obj Mor) (C : CategoryData Obj Mor) (Z : SumData Obj Mor) (k g : Mor) (o : Option (List ℕ)) → has_row o ≡ true → (z : Size) → IsSizeInKeep V C Z k g o z → ⊥
sizes-true V C Z k g (Some x) e z m = m
sizes-true V C Z k g None e z m = false≢true e

pub join-false : {Obj Mor : Type 0} (V : SumMeets Obj Mor) (C : CategoryData Obj Mor) (Z : SumData Obj Mor) (k g : Mor) (o : Option (List ℕ)) (met : Size → Type 0) → has_row o ≡ false → ((z : Size) → met z → Fits z)
    → (r : Result Mor CatFault) → Answers (IsSizeInJoin V C Z k g) (λ x. x ≡ above C Z k g) r → Answers (λ z. met z ⊎ IsSizeInKeep V C Z k g o z) (λ x. x ≡ kept_by C Z k g o) r
join-false V C Z k g (Some x) met e h r a = absurd (false≢true (sym e))
join-false V C Z k g None met e h r a = answers-after met (IsSizeInJoin V C Z k g) (λ x. x ≡ above C Z k g) (λ x. x ≡ above C Z k g) h (λ x d. d) r a
