use Rattle.std.proofs.Common.{◌≡◌, ℕ, ◌+◌, ◌%◌, ◌<◌, length, get_or, ap, ◌∙◌, arith}
use Rattle.std.proofs.lemmas.List.{with_items_is}
use Rattle.cap_matrix.specs.Grid.{entry}
use Rattle.cap_matrix.proofs.Filled.{filled_matrix, rows-sum}
use Rattle.cap_matrix.proofs.matrix.Matrix.sum.Goals as goal

pub returns : goal.returns
returns c =
    let x = c.args.self.now in
    let y = c.args.b.now in
    let a = c.cells-left.result.now in
    let b = c.cells-right.result.now in
    let p = c.field-field.result in
    let n = c.rows-rows.result in
    let m = c.cols-cols.result in
    let ep = c.field-field.ensures.value in
    let en = c.rows-rows.ensures.value in
    let em = c.cols-cols.ensures.value in
    let out = c.add_cells.new.sums in
    let f = λ (i j : ℕ). (entry x.entries i j + entry y.entries i j) % x.prime in
    let items = with_items_is c.in_ok-cells.cells out (omega arith) in
    let first : c.deref_mut.result.now ≡ a = c.deref_mut.ensures.value ∙ c.in_ok-cells.ensures.items in
    let sums : (k : ℕ) → k < length a → get_or out k 0 ≡ (get_or a k 0 + get_or b k 0) % c.prime.result
    = λ k lt. c.add_cells.ensures k (omega (arith, ap length first)) ∙ ap (λ xs. (get_or xs k 0 + get_or b k 0) % c.prime.result) first in
    let rows = rows-sum x y a b out c.prime.result n m c.cells-left.ensures c.cells-right.ensures (c.prime.ensures.value ∙ ep) en em c.requires.rows c.requires.columns sums in
    c.from_cells.ensures ∙ filled_matrix p x.prime n x.row_count m x.column_count _ out f ep en em items rows
