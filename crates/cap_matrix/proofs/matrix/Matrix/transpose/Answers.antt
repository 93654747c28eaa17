use Rattle.std.proofs.Common.{◌∙◌, arith}
use Rattle.std.proofs.lemmas.List.{with_items_is}
use Rattle.cap_matrix.specs.Grid.{entry}
use Rattle.cap_matrix.proofs.Filled.{filled_residues, filled_matrix, rows-transposed, held_small, fits_turned}
use Rattle.cap_matrix.proofs.matrix.Matrix.transpose.Goals as goal

pub zeros-requires : goal.zeros-requires
zeros-requires c =
    fits_turned c.rows-rows.result c.cols-cols.result c.args.self.now.row_count c.args.self.now.column_count c.rows-rows.ensures.value c.cols-cols.ensures.value c.cells-from.ensures.flat.size

pub from_cells-requires-clause-size : goal.from_cells-requires-clause-size
from_cells-requires-clause-size c =
    fits_turned c.rows-rows.result c.cols-cols.result c.args.self.now.row_count c.args.self.now.column_count c.rows-rows.ensures.value c.cols-cols.ensures.value c.cells-from.ensures.flat.size

pub from_cells-requires-clause-residues : goal.from_cells-requires-clause-residues
from_cells-requires-clause-residues c =
    let x = c.args.self.now in
    let a = c.cells-from.result.now in
    let p = c.field-field.result in
    let n = c.rows-rows.result in
    let m = c.cols-cols.result in
    let ep = c.field-field.ensures.value in
    let en = c.rows-rows.ensures.value in
    let em = c.cols-cols.ensures.value in
    let out = c.transpose.new.out in
    let items = with_items_is c.in_ok-cells.cells out (omega arith) in
    let rows = rows-transposed x a out n m c.cells-from.ensures en em c.transpose.ensures in
    filled_residues p x.prime m n _ out (λ i j. entry x.entries j i) ep items rows (λ i j lt below. held_small x a n m c.cells-from.ensures en em j i below lt)

pub returns : goal.returns
returns c =
    let x = c.args.self.now in
    let a = c.cells-from.result.now in
    let p = c.field-field.result in
    let n = c.rows-rows.result in
    let m = c.cols-cols.result in
    let ep = c.field-field.ensures.value in
    let en = c.rows-rows.ensures.value in
    let em = c.cols-cols.ensures.value in
    let out = c.transpose.new.out in
    let items = with_items_is c.in_ok-cells.cells out (omega arith) in
    let rows = rows-transposed x a out n m c.cells-from.ensures en em c.transpose.ensures in
    c.from_cells.ensures ∙ filled_matrix p x.prime m x.column_count n x.row_count _ out (λ i j. entry x.entries j i) ep em en items rows
