use Rattle.std.proofs.Common.{rules, ◌≡◌, sym, ◌∙◌}
use Rattle.std.proofs.lemmas.Bool.Decides.{Decides-eqb}
use Rattle.std.proofs.lemmas.Slice.Eq.{slice_eq-Decides}
use Rattle.cap_matrix.proofs.Buffers.{matrix_of-same, matrix_of_cells}
use Rattle.cap_matrix.proofs.matrix.Matrix.same.Goals as goal

pub returns-then-self-b-2 : goal.returns-then-self-b-2
returns-then-self-b-2 c =
    let left = c.self.inside in
    let right = c.b.inside in
    let fields : left.field ≡ right.field = search rules in
    let rows : left.rows ≡ right.rows = search rules in
    let columns : left.cols ≡ right.cols = search rules in
    let compared = slice_eq-Decides Decides-eqb c.as_slice.result.now c.as_slice-then-self-b-2.result.now c.eq-then-self-b-2.result c.eq-then-self-b-2.ensures in
    let first = c.as_slice.ensures.value in
    let second = c.as_slice-then-self-b-2.ensures.value in (
      λ yes. sym c.self.view_is
          ∙ matrix_of-same left.field right.field left.rows right.rows left.cols right.cols left.cells.items right.cells.items
          fields rows columns (sym first ∙ compared.0 yes ∙ second)
          ∙ c.b.view_is,
      λ equal. compared.1 (first
          ∙ matrix_of_cells left.field right.field left.rows right.rows left.cols right.cols left.cells.items right.cells.items
          rows columns c.self.invariant.cells_length c.b.invariant.cells_length (c.self.view_is ∙ equal ∙ sym c.b.view_is)
          ∙ sym second),
    )
