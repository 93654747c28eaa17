use Rattle.std.proofs.Common.{◌≡◌, ℕ, ◌+◌, ◌-◌, ltb, cond, sym, ◌∙◌, arith, rules}
use Rattle.std.proofs.lemmas.List.{with_items_is}
use Rattle.cap_matrix.specs.Grid.{entry}
use Rattle.cap_matrix.proofs.Filled.{filled_matrix, rows-stacked, fits_same}
use Rattle.cap_matrix.proofs.matrix.Matrix.stack.Goals as goal

pub returns : goal.returns
returns c =
    let x = c.args.self.now in
    let y = c.args.below.now in
    let a = c.cells-upper.result.now in
    let b = c.cells-lower.result.now in
    let p = c.field-field.result in
    let n = c.rows.result in
    let k = c.rows-2.result in
    let m = c.cols-cols.result in
    let ep = c.field-field.ensures.value in
    let en = c.rows.ensures.value in
    let ek = c.rows-2.ensures.value in
    let em = c.cols-cols.ensures.value in
    let out = c.join.new.out in
    let f = λ (i j : ℕ). cond (ltb i x.row_count) (entry x.entries i j) (entry y.entries (i - x.row_count) j) in
    let items = with_items_is c.in_ok-cells.cells out (omega arith) in
    let rows = rows-stacked x y a b out n k m c.cells-upper.ensures c.cells-lower.ensures en ek em c.requires.columns c.join.ensures in
    let tall : n + k ≡ x.row_count + y.row_count = omega arith in (
      c.from_cells.ensures ∙ filled_matrix p x.prime (n + k) (x.row_count + y.row_count) m x.column_count _ out f ep tall em items rows,
      fits_same (x.row_count + y.row_count) x.column_count (n + k) m (sym tall) (sym em) (search rules),
    )
