use Rattle.std.proofs.Common.{◌≡◌, ◌∙◌, true, subst, Err}
use Rattle.cap_matrix.specs.Grid.{Grid, fits_limits}
use Rattle.cap_matrix.specs.Reduced.{IsNullBasis}
use Rattle.cap_matrix.specs.declared.MatrixFault.{MatrixFault}
use Rattle.cap_reduce.specs.Answers.{IsLargeNullBasis, IsNullRows}
use Rattle.cap_vec.proofs.Kernels.{kernel_is, kernel_fits, kernel_large}
use Rattle.cap_vec.proofs.abelian.kernel.Goals as goal

pub returns-in-Ok : goal.returns-in-Ok
returns-in-Ok c = λ t.
    let p = c.args.field in
    let f = c.args.f.now in
    let k = c.in-Ok.rows in
    let e = c.matrix-m.ensures in
    let basis = subst (λ (g : Grid). IsNullBasis g k) e c.in-Ok.ensures in
    let size = subst (λ (g : Grid). fits_limits g.row_count g.column_count ≡ true) e c.cells.ensures.flat.size in
    (c.new.ensures ∙ kernel_is p t f c.requires k basis, kernel_fits p t f c.requires size k basis c.cells-in-Ok.ensures.flat.size)

pub returns-in-Err-TooLarge : goal.returns-in-Err-TooLarge
returns-in-Err-TooLarge c = λ t.
    let size = c.in-Err-TooLarge.size in
    let p = c.args.field in
    let f = c.args.f.now in
    let made = subst (λ (v : MatrixFault). IsNullRows c.matrix-m.result.now (Err v)) c.in-Err-TooLarge.field-0-is c.in-Err-TooLarge.ensures in
    let large = subst (λ (g : Grid). IsLargeNullBasis g size) c.matrix-m.ensures made in
    let names = kernel_large p t f c.requires size large c.too_large.ensures.rows c.too_large.ensures.cols in
    rw c.too_large.ensures.value names
