use Rattle.std.proofs.Common.{◌≡◌, ◌⊎◌, ◌<◌, ℕ, inl, inr, List, length, get_or, refl, sym, ap, ◌∙◌, subst, arith}
use Rattle.cap_matrix.specs.Grid.{Grid}
use Rattle.cap_matrix.specs.Reduced.{IsSolution, IsObstruction}
use Rattle.cap_reduce.specs.Answers.{IsSolved}
use Rattle.cap_reduce.specs.declared.solving.Solved.{Solved}
use Rattle.cap_laws.specs.Answers.{Answers, Size, numbers}
use Rattle.cap_homlaw.specs.Rows.{AreResidues}
use Rattle.cap_solve_laws.specs.Systems.{unknowns_width, values_width, system_matrix, values_row, morphisms_of}
use Rattle.cap_solve_laws.proofs.Solver.{solution_row}
use Rattle.cap_solve.specs.Answered.{IsAnswered}
use Rattle.cap_solve.specs.Parts.{AreEnds}
use Rattle.cap_solve.specs.Sizes.{IsSizeInEquations, IsSizeInMorphisms, IsSizeInAnswer, IsSizeInSystem}
use Rattle.cap_solve.proofs.Faults.{err-is, fault_of, either_fits}
use Rattle.cap_solve.proofs.RowAnswers.{row-values, matrix-prime, row-unknowns, solved-is, answer-met, answer-meets, none-meets}
use Rattle.cap_solve.proofs.system.solve.Goals as goal

pub solve-requires-clause-width : goal.solve-requires-clause-width
solve-requires-clause-width g c =
    let q = c.args.c.now in
    let V = row-values (g.met.C.Cat.linear q) (g.met.C.HomFp.is_hom q) c.args.s.now c.requires in
    let pair = c.in_ok-matrix.ensures.0 in
    ap (λ (l : List ℕ). length l) (c.as_slice-row.ensures ∙ ap (λ (x : Grid × List ℕ). x.1) pair) ∙ V.long ∙ sym (ap (λ (x : Grid × List ℕ). x.0.column_count) pair)

pub solve-requires-clause-residues : goal.solve-requires-clause-residues
solve-requires-clause-residues g c = λ j lt.
    let q = c.args.c.now in
    let L = g.met.C.Cat.linear q in
    let S = g.met.C.HomFp.is_hom q in
    let V = row-values L S c.args.s.now c.requires in
    let pair = c.in_ok-matrix.ensures.0 in
    let row = c.as_slice-row.ensures ∙ ap (λ (x : Grid × List ℕ). x.1) pair in
    let v = values_row (g.C.HomFp.hom q) c.args.s.now.equations in
    let below = subst (λ (l : List ℕ). j < length l) row lt in
    subst (λ (l : List ℕ). get_or l j 0 < c.in_ok-matrix.matrix.prime) (sym row)
    (subst (λ p. get_or v j 0 < p) (sym (ap (λ (x : Grid × List ℕ). x.0.prime) pair ∙ matrix-prime L S c.args.s.now c.requires)) (V.residues j (omega (arith, below, V.long))))

pub morphisms-requires-clause-unknowns : goal.morphisms-requires-clause-unknowns
morphisms-requires-clause-unknowns g c = subst (λ us. AreEnds (g.C.Cat.category c.args.c.now) us) (sym c.as_slice-unknowns.ensures) (record { each = c.requires.unknowns })

pub morphisms-requires-clause-few : goal.morphisms-requires-clause-few
morphisms-requires-clause-few g c =
    let C = g.C.Cat.category c.args.c.now in
    let H = g.C.HomFp.hom c.args.c.now in
    let fits = c.in_ok-matrix.ensures.1 (numbers (unknowns_width H c.args.s.now.unknowns) (values_width C H c.args.s.now.equations)) (inl refl) in
    let same = ap (λ l. unknowns_width H l) c.as_slice-unknowns.ensures in
    omega (arith, same, fits.rows)

pub morphisms-requires-clause-row : goal.morphisms-requires-clause-row
morphisms-requires-clause-row g c =
    let q = c.args.c.now in
    let C = g.C.Cat.category q in
    let H = g.C.HomFp.hom q in
    let s = c.args.s.now in
    let pair = c.in_ok-matrix.ensures.0 in
    let row = c.as_slice-row.ensures ∙ ap (λ (x : Grid × List ℕ). x.1) pair in
    let x = c.in-Row.x in
    let solved = subst (λ (z : Solved). IsSolved c.in_ok-matrix.matrix c.as_slice-row.result.now z) c.in-Row.is c.in_ok-solved.ensures in
    let r = subst (λ (l : List ℕ). IsSolution (system_matrix C H s.unknowns s.equations) l x) row (subst (λ (m : Grid). IsSolution m c.as_slice-row.result.now x) (ap (λ (y : Grid × List ℕ). y.0) pair) solved) in
    let R = row-unknowns (g.met.C.Cat.linear q) (g.met.C.HomFp.is_hom q) s c.requires x r in
    subst (λ us. AreResidues C.prime (unknowns_width H us) c.as_slice-solution.result.now) (sym c.as_slice-unknowns.ensures) (subst (λ (l : List ℕ). AreResidues C.prime (unknowns_width H s.unknowns) l) (sym c.as_slice-solution.ensures) R)

pub returns-in_err-matrix : goal.returns-in_err-matrix
returns-in_err-matrix g c =
    let q = c.args.c.now in
    let C = g.C.Cat.category q in
    let H = g.C.HomFp.hom q in
    let W = g.C.HomFp.hom_meets q in
    let s = c.args.s.now in
    let e = c.in_err-matrix.field-0.0 in
    let is = err-is c.from_residual.result e c.from_residual.ensures.1 in
    let part = λ (z : Size). (z ≡ numbers (unknowns_width H s.unknowns) (values_width C H s.equations)) ⊎ IsSizeInEquations W s.equations z in
    subst (λ r. Answers (IsSizeInSystem W C H s) (IsAnswered C H s) r) (sym is)
    (fault_of (IsSizeInSystem W C H s) part (IsAnswered C H s) (λ (x : Grid × List ℕ). x ≡ (system_matrix C H s.unknowns s.equations, values_row H s.equations)) e (λ z m. inl m) c.in_err-matrix.ensures)

pub returns-in_err-xs-in-Row : goal.returns-in_err-xs-in-Row
returns-in_err-xs-in-Row g c =
    let q = c.args.c.now in
    let C = g.C.Cat.category q in
    let H = g.C.HomFp.hom q in
    let W = g.C.HomFp.hom_meets q in
    let L = g.met.C.Cat.linear q in
    let S = g.met.C.HomFp.is_hom q in
    let s = c.args.s.now in
    let pair = c.in_ok-matrix.ensures.0 in
    let row = c.as_slice-row.ensures ∙ ap (λ (x : Grid × List ℕ). x.1) pair in
    let x = c.in-Row.x in
    let solved = subst (λ (z : Solved). IsSolved c.in_ok-matrix.matrix c.as_slice-row.result.now z) c.in-Row.is c.in_ok-solved.ensures in
    let r = subst (λ (l : List ℕ). IsSolution (system_matrix C H s.unknowns s.equations) l x) row (subst (λ (m : Grid). IsSolution m c.as_slice-row.result.now x) (ap (λ (y : Grid × List ℕ). y.0) pair) solved) in
    let us = c.as_slice-unknowns.result.now in
    let y = c.as_slice-solution.result.now in
    let e = c.in_err-xs-in-Row.field-0.0 in
    let is = err-is c.from_residual-in_err-xs-in-Row.result e c.from_residual-in_err-xs-in-Row.ensures.1 in
    subst (λ r. Answers (IsSizeInSystem W C H s) (IsAnswered C H s) r) (sym is)
    (fault_of (IsSizeInSystem W C H s) (IsSizeInMorphisms W H us y) (IsAnswered C H s) (λ xs. xs ≡ morphisms_of H us y) e
    (λ z m. inr (answer-met L S s c.requires W x r z (subst (λ l. IsSizeInMorphisms W H l x z) c.as_slice-unknowns.ensures (subst (λ (l : List ℕ). IsSizeInMorphisms W H us l z) c.as_slice-solution.ensures m)))) c.in_err-xs-in-Row.ensures)

pub returns-in-Row : goal.returns-in-Row
returns-in-Row g c =
    let q = c.args.c.now in
    let C = g.C.Cat.category q in
    let H = g.C.HomFp.hom q in
    let W = g.C.HomFp.hom_meets q in
    let L = g.met.C.Cat.linear q in
    let S = g.met.C.HomFp.is_hom q in
    let s = c.args.s.now in
    let M = system_matrix C H s.unknowns s.equations in
    let v = values_row H s.equations in
    let pair = c.in_ok-matrix.ensures.0 in
    let row = c.as_slice-row.ensures ∙ ap (λ (x : Grid × List ℕ). x.1) pair in
    let x = c.in-Row.x in
    let solved = subst (λ (z : Solved). IsSolved c.in_ok-matrix.matrix c.as_slice-row.result.now z) c.in-Row.is c.in_ok-solved.ensures in
    let r = subst (λ (l : List ℕ). IsSolution M l x) row (subst (λ (m : Grid). IsSolution m c.as_slice-row.result.now x) (ap (λ (y : Grid × List ℕ). y.0) pair) solved) in
    let us = c.as_slice-unknowns.result.now in
    let eu = c.as_slice-unknowns.ensures in
    let ey = c.as_slice-solution.ensures in
    let made = c.in_ok-xs-in-Row.ensures.0 ∙ ap (λ l. morphisms_of H l c.as_slice-solution.result.now) eu ∙ ap (λ (l : List ℕ). morphisms_of H s.unknowns l) ey in (
      solved-is L S s c.requires x c.in_ok-xs-in-Row.xs r made,
      either_fits (λ z. (z ≡ numbers (unknowns_width H s.unknowns) (values_width C H s.equations)) ⊎ IsSizeInEquations W s.equations z) (IsSizeInAnswer W H s.unknowns (solution_row C.prime M v)) c.in_ok-matrix.ensures.1
          (λ z m. c.in_ok-xs-in-Row.ensures.1 z (subst (λ (l : List ℕ). IsSizeInMorphisms W H us l z) (sym ey) (subst (λ l. IsSizeInMorphisms W H l x z) (sym eu) (answer-meets L S s c.requires W x r z m)))),
    )

pub returns : goal.returns
returns g c =
    let q = c.args.c.now in
    let C = g.C.Cat.category q in
    let H = g.C.HomFp.hom q in
    let W = g.C.HomFp.hom_meets q in
    let s = c.args.s.now in
    let M = system_matrix C H s.unknowns s.equations in
    let v = values_row H s.equations in
    let pair = c.in_ok-matrix.ensures.0 in
    let row = c.as_slice-row.ensures ∙ ap (λ (x : Grid × List ℕ). x.1) pair in
    let y = c.in-Obstruction.y in
    let solved = subst (λ (z : Solved). IsSolved c.in_ok-matrix.matrix c.as_slice-row.result.now z) c.in-Obstruction.is c.in_ok-solved.ensures in
    let o = subst (λ (l : List ℕ). IsObstruction M l y) row (subst (λ (m : Grid). IsObstruction m c.as_slice-row.result.now y) (ap (λ (x : Grid × List ℕ). x.0) pair) solved) in (
      o,
      either_fits (λ z. (z ≡ numbers (unknowns_width H s.unknowns) (values_width C H s.equations)) ⊎ IsSizeInEquations W s.equations z) (IsSizeInAnswer W H s.unknowns (solution_row C.prime M v)) c.in_ok-matrix.ensures.1
          (none-meets (g.met.C.Cat.linear q) (g.met.C.HomFp.is_hom q) s c.requires W y o),
    )
