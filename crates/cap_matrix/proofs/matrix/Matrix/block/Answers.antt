use Rattle.std.proofs.Common.{ℕ, ◌+◌, refl, ◌∙◌, arith}
use Rattle.std.proofs.lemmas.List.{with_items_is}
use Rattle.cap_matrix.specs.Grid.{entry}
use Rattle.cap_matrix.proofs.Filled.{filled_residues, filled_matrix, rows-block, held_small}
use Rattle.cap_matrix.proofs.matrix.Matrix.block.Goals as goal

pub from_cells-requires-clause-residues : goal.from_cells-requires-clause-residues
from_cells-requires-clause-residues c =
    let x = c.args.self.now in
    let a = c.cells-from.result.now in
    let p = c.field-field.result in
    let n = c.rows-height.result in
    let m = c.cols-width.result in
    let ep = c.field-field.ensures.value in
    let en = c.rows-height.ensures.value in
    let em = c.cols-width.ensures.value in
    let out = c.copy_block.new.out in
    let f = λ (i j : ℕ). entry x.entries (c.args.row + i) (c.args.col + j) in
    let items = with_items_is c.in_ok-cells.cells out (omega arith) in
    let rows = rows-block x a out n m c.args.row c.args.col c.args.rows c.args.cols c.cells-from.ensures en em (omega arith) (omega arith) c.copy_block.ensures in
    filled_residues p x.prime c.args.rows c.args.cols _ out f ep items rows
    (λ i j lt below. held_small x a n m c.cells-from.ensures en em (c.args.row + i) (c.args.col + j) (omega arith) (omega arith))

pub returns : goal.returns
returns c =
    let x = c.args.self.now in
    let a = c.cells-from.result.now in
    let p = c.field-field.result in
    let n = c.rows-height.result in
    let m = c.cols-width.result in
    let ep = c.field-field.ensures.value in
    let en = c.rows-height.ensures.value in
    let em = c.cols-width.ensures.value in
    let out = c.copy_block.new.out in
    let f = λ (i j : ℕ). entry x.entries (c.args.row + i) (c.args.col + j) in
    let items = with_items_is c.in_ok-cells.cells out (omega arith) in
    let rows = rows-block x a out n m c.args.row c.args.col c.args.rows c.args.cols c.cells-from.ensures en em (omega arith) (omega arith) c.copy_block.ensures in
    c.from_cells.ensures ∙ filled_matrix p x.prime c.args.rows c.args.rows c.args.cols c.args.cols _ out f ep refl refl items rows
