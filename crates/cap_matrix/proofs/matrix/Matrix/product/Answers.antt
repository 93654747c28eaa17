use Rattle.std.proofs.Common.{ℕ, ◌*◌, ◌%◌, sym, ◌∙◌, arith, rules}
use Rattle.std.proofs.lemmas.List.{with_items_is}
use Rattle.cap_matrix.specs.Grid.{entry, total}
use Rattle.cap_matrix.proofs.Filled.{filled_residues, filled_matrix, rows-product, held_below, remainder_small, fits_same}
use Rattle.cap_matrix.proofs.matrix.Matrix.product.Goals as goal

pub multiply-requires-clause-left_small : goal.multiply-requires-clause-left_small
multiply-requires-clause-left_small c =
    held_below c.args.self.now c.cells-left.result.now c.prime.result c.cells-left.ensures (c.prime.ensures.value ∙ c.field-field.ensures.value) c.prime.ensures.high

pub multiply-requires-clause-right_small : goal.multiply-requires-clause-right_small
multiply-requires-clause-right_small c =
    held_below c.args.b.now c.cells-right.result.now c.prime.result c.cells-right.ensures (c.prime.ensures.value ∙ c.field-field.ensures.value ∙ c.requires.field) c.prime.ensures.high

pub from_cells-requires-clause-residues : goal.from_cells-requires-clause-residues
from_cells-requires-clause-residues c =
    let x = c.args.self.now in
    let y = c.args.b.now in
    let a = c.cells-left.result.now in
    let b = c.cells-right.result.now in
    let p = c.field-field.result in
    let n = c.rows-rows.result in
    let m = c.cols-inner.result in
    let l = c.cols-cols.result in
    let ep = c.field-field.ensures.value in
    let en = c.rows-rows.ensures.value in
    let em = c.cols-inner.ensures.value in
    let el = c.cols-cols.ensures.value in
    let out = c.multiply.new.out in
    let f = λ (i j : ℕ). total x.column_count (λ k. entry x.entries i k * entry y.entries k j) % x.prime in
    let items = with_items_is c.in_ok-cells.cells out (omega arith) in
    let rows = rows-product x y a b out c.prime.result n m l c.cells-left.ensures c.cells-right.ensures (c.prime.ensures.value ∙ ep) en em el c.requires.meet c.multiply.ensures in
    filled_residues p x.prime n l _ out f ep items rows
    (λ i j lt below. remainder_small c.prime.result x.prime (total x.column_count (λ k. entry x.entries i k * entry y.entries k j)) (c.prime.ensures.value ∙ ep) c.prime.ensures.low)

pub returns : goal.returns
returns c =
    let x = c.args.self.now in
    let y = c.args.b.now in
    let a = c.cells-left.result.now in
    let b = c.cells-right.result.now in
    let p = c.field-field.result in
    let n = c.rows-rows.result in
    let m = c.cols-inner.result in
    let l = c.cols-cols.result in
    let ep = c.field-field.ensures.value in
    let en = c.rows-rows.ensures.value in
    let em = c.cols-inner.ensures.value in
    let el = c.cols-cols.ensures.value in
    let out = c.multiply.new.out in
    let f = λ (i j : ℕ). total x.column_count (λ k. entry x.entries i k * entry y.entries k j) % x.prime in
    let items = with_items_is c.in_ok-cells.cells out (omega arith) in
    let rows = rows-product x y a b out c.prime.result n m l c.cells-left.ensures c.cells-right.ensures (c.prime.ensures.value ∙ ep) en em el c.requires.meet c.multiply.ensures in (
      c.from_cells.ensures ∙ filled_matrix p x.prime n x.row_count l y.column_count _ out f ep en el items rows,
      fits_same x.row_count y.column_count n l (sym en) (sym el) (search rules),
    )
