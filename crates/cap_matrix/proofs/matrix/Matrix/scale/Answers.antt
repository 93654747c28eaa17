use Rattle.std.proofs.Common.{◌≡◌, ℕ, ◌*◌, ◌%◌, length, ap, ◌∙◌, arith}
use Rattle.std.proofs.lemmas.List.{with_items_is, length-replicate}
use Rattle.cap_matrix.specs.Grid.{entry}
use Rattle.cap_matrix.proofs.Filled.{filled_matrix, rows-scaled, held_below}
use Rattle.cap_matrix.proofs.matrix.Matrix.scale.Goals as goal

pub scale_cells-requires-clause-small : goal.scale_cells-requires-clause-small
scale_cells-requires-clause-small c =
    held_below c.args.self.now c.cells-from.result.now c.prime-p.result c.cells-from.ensures (c.prime-p.ensures.value ∙ c.field-field.ensures.value) c.prime-p.ensures.high

pub returns : goal.returns
returns c =
    let x = c.args.self.now in
    let a = c.cells-from.result.now in
    let p = c.field-field.result in
    let n = c.rows-rows.result in
    let m = c.cols-cols.result in
    let ep = c.field-field.ensures.value in
    let en = c.rows-rows.ensures.value in
    let em = c.cols-cols.ensures.value in
    let out = c.scale_cells.new.out in
    let f = λ (i j : ℕ). (c.args.n * entry x.entries i j) % x.prime in
    let items = with_items_is c.in_ok-cells.cells out (omega arith) in
    let long : length c.deref_mut.result.now ≡ n * m = ap length (c.deref_mut.ensures.value ∙ c.in_ok-cells.ensures) ∙ length-replicate (n * m) 0 in
    let rows = rows-scaled x a out c.args.n c.prime-p.result n m c.cells-from.ensures (c.prime-p.ensures.value ∙ ep) en em (λ k lt. c.scale_cells.ensures k (omega (arith, long))) in
    c.from_cells.ensures ∙ filled_matrix p x.prime n x.row_count m x.column_count _ out f ep en em items rows
