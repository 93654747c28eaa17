use Rattle.std.proofs.Common.{◌∙◌, subst}
use Rattle.cap_matrix.specs.Grid.{Grid}
use Rattle.cap_matrix.specs.Buffer.{IsBufferOf}
use Rattle.cap_vec.proofs.HomCells.{cells-held, size_met, held_fits}
use Rattle.cap_vec.proofs.hom.VecCatHomFp.nu.Goals as goal

pub returns : goal.returns
returns c =
    let f = c.args.f.now in
    let cells = c.cells.result.now in
    let held = subst (λ (g : Grid). IsBufferOf g cells) c.matrix.ensures c.cells.ensures in
    (c.new.ensures ∙ c.in_ok-cells.ensures.items ∙ cells-held f cells held, size_met f (held_fits f cells held))
