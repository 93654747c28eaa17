use Rattle.std.proofs.Common.{◌⊎◌, sym, ap, ◌∙◌, subst}
use Rattle.cap_matrix.specs.Grid.{Grid, transposed_of, kron_of}
use Rattle.cap_matrix.specs.Buffer.{IsBufferOf}
use Rattle.cap_laws.specs.Answers.{Size, Fits}
use Rattle.cap_vec_laws.proofs.Arrows.{whole-matrix}
use Rattle.cap_vec_hom_laws.proofs.HomLaws.{hom_is_kronecker}
use Rattle.cap_vec.specs.Sizes.{IsSizeOf}
use Rattle.cap_vec.proofs.Faults.{either_fits}
use Rattle.cap_vec.proofs.HomCells.{size_met, held_fits}
use Rattle.cap_vec.proofs.hom.VecCatHomFp.h.Goals as goal

pub returns : goal.returns
returns c =
    let p = c.args.self.now.field in
    let l = c.args.left.now in
    let r = c.args.right.now in
    let right = c.matrix-r.result.now in
    let turned = c.matrix.result.now in
    let k = kron_of (transposed_of l) r in
    let made = c.in_ok-product.ensures (kron_of turned right) c.kron.ensures in
    let same = ap (λ m. kron_of m right) (c.matrix.ensures ∙ c.in_ok-turned.ensures.answer.0) ∙ ap (λ m. kron_of (transposed_of l) m) c.matrix-r.ensures in
    let first = subst (λ (g : Grid). IsBufferOf g c.cells.result.now) c.matrix-l.ensures c.cells.ensures in
    let second = subst (λ (g : Grid). IsBufferOf g c.cells-2.result.now) c.matrix-r.ensures c.cells-2.ensures in (
      c.into_matrix.ensures ∙ made.0 ∙ same ∙ sym ((hom_is_kronecker p c.args.self.now.tabled).law (whole-matrix c.requires.left) (whole-matrix c.requires.right)),
      either_fits (λ s. IsSizeOf l s ⊎ IsSizeOf r s) (IsSizeOf k)
          (either_fits (IsSizeOf l) (IsSizeOf r) (size_met l (held_fits l c.cells.result.now first)) (size_met r (held_fits r c.cells-2.result.now second)))
          (subst (λ (g : Grid). (s : Size) → IsSizeOf g s → Fits s) same made.1),
    )
