use Rattle.std.proofs.Common.{◌≡◌, ℕ, ◌+◌, ◌-◌, ltb, cond, sym, ◌∙◌, arith, rules}
use Rattle.std.proofs.lemmas.List.{with_items_is}
use Rattle.cap_matrix.specs.Grid.{entry}
use Rattle.cap_matrix.proofs.Filled.{filled_residues, filled_matrix, rows-beside, beside_small, fits_same}
use Rattle.cap_matrix.proofs.matrix.Matrix.beside.Goals as goal

pub from_cells-requires-clause-residues : goal.from_cells-requires-clause-residues
from_cells-requires-clause-residues c =
    let x = c.args.self.now in
    let y = c.args.right.now in
    let a = c.cells-a.result.now in
    let b = c.cells-b.result.now in
    let p = c.field-field.result in
    let n = c.rows-rows.result in
    let m = c.cols-first.result in
    let l = c.cols-second.result in
    let ep = c.field-field.ensures.value in
    let en = c.rows-rows.ensures.value in
    let em = c.cols-first.ensures.value in
    let el = c.cols-second.ensures.value in
    let out = c.join_rows.new.out in
    let f = λ (i j : ℕ). cond (ltb j x.column_count) (entry x.entries i j) (entry y.entries i (j - x.column_count)) in
    let items = with_items_is c.in_ok-cells.cells out (omega arith) in
    let rows = rows-beside x y a b out n m l c.cells-a.ensures c.cells-b.ensures en em el c.requires.rows c.join_rows.ensures in
    let wide : m + l ≡ x.column_count + y.column_count = omega arith in
    filled_residues p x.prime n (m + l) _ out f ep items rows
    (λ i j lt below. beside_small x y a b n m l i j c.cells-a.ensures c.cells-b.ensures en em el c.requires.field c.requires.rows lt below)

pub returns : goal.returns
returns c =
    let x = c.args.self.now in
    let y = c.args.right.now in
    let a = c.cells-a.result.now in
    let b = c.cells-b.result.now in
    let p = c.field-field.result in
    let n = c.rows-rows.result in
    let m = c.cols-first.result in
    let l = c.cols-second.result in
    let ep = c.field-field.ensures.value in
    let en = c.rows-rows.ensures.value in
    let em = c.cols-first.ensures.value in
    let el = c.cols-second.ensures.value in
    let out = c.join_rows.new.out in
    let f = λ (i j : ℕ). cond (ltb j x.column_count) (entry x.entries i j) (entry y.entries i (j - x.column_count)) in
    let items = with_items_is c.in_ok-cells.cells out (omega arith) in
    let rows = rows-beside x y a b out n m l c.cells-a.ensures c.cells-b.ensures en em el c.requires.rows c.join_rows.ensures in
    let wide : m + l ≡ x.column_count + y.column_count = omega arith in (
      c.from_cells.ensures ∙ filled_matrix p x.prime n x.row_count (m + l) (x.column_count + y.column_count) _ out f ep en wide items rows,
      fits_same x.row_count (x.column_count + y.column_count) n (m + l) (sym en) (sym wide) (search rules),
    )
