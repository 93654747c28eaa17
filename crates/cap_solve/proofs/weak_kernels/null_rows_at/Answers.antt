use Rattle.std.proofs.Common.{◌≡◌, ◌⊎◌, inr, Err, refl, sym, subst}
use Rattle.cap_matrix.specs.Grid.{Grid}
use Rattle.cap_matrix.specs.Reduced.{IsNullBasis}
use Rattle.cap_matrix.specs.declared.MatrixFault.{MatrixFault}
use Rattle.cap_reduce.specs.Answers.{IsLargeNullBasis, IsNullRows}
use Rattle.cap_laws.specs.declared.faults.CatFault.{CatFault}
use Rattle.cap_laws.specs.Answers.{Size, Fits, Answers, Names, numbers}
use Rattle.cap_homlaw.specs.Hom.{hom_matrix}
use Rattle.cap_homlaw.proofs.TwoSided.{hom_matrix-matrix}
use Rattle.cap_solve_laws.proofs.Solver.{null_rows_of}
use Rattle.cap_solve.proofs.Faults.{either_fits, size_fits, null_rows_are, null_rows_large}
use Rattle.cap_solve.proofs.weak_kernels.null_rows_at.Goals as goal

pub returns-in-Ok : goal.returns-in-Ok
returns-in-Ok g c =
    let q = c.args.c.now in
    let C = g.C.Cat.category q in
    let H = g.C.HomFp.hom q in
    let L = g.met.C.Cat.linear q in
    let W = (g.C.HomFp.hom_meets q).h c.args.unit.now c.args.f.now in
    let m = hom_matrix C H c.args.unit.now c.args.f.now in
    let M = hom_matrix-matrix L (g.met.C.HomFp.is_hom q) (record { is = c.requires.unit; from = refl; to = refl }) (record { is = c.requires.test; from = refl; to = refl }) in
    let rows = c.in-Ok.rows in
    let basis = subst (λ (x : Grid). IsNullBasis x rows) c.in_ok-matrix.ensures.0 c.in-Ok.ensures in
    let e = null_rows_are C.prime L.prime_tabled m M.is rows basis in (
      e,
      either_fits W (λ s. s ≡ numbers (null_rows_of C.prime m).row_count (null_rows_of C.prime m).column_count) c.in_ok-matrix.ensures.1
          (subst (λ (x : Grid). (s : Size) → s ≡ numbers x.row_count x.column_count → Fits s) e (size_fits rows.row_count rows.column_count c.cells.ensures.flat.size)),
    )

pub returns-in-Err-TooLarge : goal.returns-in-Err-TooLarge
returns-in-Err-TooLarge g c =
    let q = c.args.c.now in
    let C = g.C.Cat.category q in
    let H = g.C.HomFp.hom q in
    let L = g.met.C.Cat.linear q in
    let W = (g.C.HomFp.hom_meets q).h c.args.unit.now c.args.f.now in
    let m = hom_matrix C H c.args.unit.now c.args.f.now in
    let n = null_rows_of C.prime m in
    let M = hom_matrix-matrix L (g.met.C.HomFp.is_hom q) (record { is = c.requires.unit; from = refl; to = refl }) (record { is = c.requires.test; from = refl; to = refl }) in
    let size = c.in-Err-TooLarge.size in
    let made = subst (λ (v : MatrixFault). IsNullRows c.in_ok-matrix.matrix (Err v)) c.in-Err-TooLarge.field-0-is c.in-Err-TooLarge.ensures in
    let large = subst (λ (x : Grid). IsLargeNullBasis x size) c.in_ok-matrix.ensures.0 made in
    let named = null_rows_large C.prime L.prime_tabled m M.is size large c.too_large.ensures.rows c.too_large.ensures.cols in
    let right = λ (x : Grid). x ≡ n in
    let names : Names (λ z. W z ⊎ (z ≡ numbers n.row_count n.column_count)) size.rows size.cols = record { size = named.size; is_met = inr named.is_met; past = named.past; rows_named = named.rows_named; columns_named = named.columns_named } in
    subst (λ (e : CatFault). Answers (λ z. W z ⊎ (z ≡ numbers n.row_count n.column_count)) right (Err e)) (sym c.too_large.ensures.value) names
