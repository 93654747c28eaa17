use Rattle.std.proofs.Common.{◌≡◌, ℕ, ◌*◌, ◌/◌, ◌%◌, sym, ap, ◌∙◌, arith, rules}
use Rattle.std.proofs.lemmas.List.{with_items_is}
use Rattle.cap_matrix.specs.Grid.{entry}
use Rattle.cap_matrix.proofs.Filled.{filled_residues, filled_matrix, rows-kron, held_below, remainder_small, fits_same}
use Rattle.cap_matrix.proofs.matrix.Matrix.kron.Goals as goal

pub kron-requires-clause-left_small : goal.kron-requires-clause-left_small
kron-requires-clause-left_small c =
    held_below c.args.self.now c.cells-outer.result.now c.prime-p.result c.cells-outer.ensures (c.prime-p.ensures.value ∙ c.field-field.ensures.value) c.prime-p.ensures.high

pub kron-requires-clause-right_small : goal.kron-requires-clause-right_small
kron-requires-clause-right_small c =
    held_below c.args.b.now c.cells-inner.result.now c.prime-p.result c.cells-inner.ensures (c.prime-p.ensures.value ∙ c.field-field.ensures.value ∙ c.requires) c.prime-p.ensures.high

pub from_cells-requires-clause-residues : goal.from_cells-requires-clause-residues
from_cells-requires-clause-residues c =
    let x = c.args.self.now in
    let y = c.args.b.now in
    let a = c.cells-outer.result.now in
    let b = c.cells-inner.result.now in
    let p = c.field-field.result in
    let n = c.rows-height.result in
    let m = c.cols-width.result in
    let k = c.rows-rows.result in
    let l = c.cols-cols.result in
    let ep = c.field-field.ensures.value in
    let en = c.rows-height.ensures.value in
    let em = c.cols-width.ensures.value in
    let ek = c.rows-rows.ensures.value in
    let el = c.cols-cols.ensures.value in
    let out = c.kron.new.out in
    let f = λ (i j : ℕ). (entry x.entries (i / y.row_count) (j / y.column_count) * entry y.entries (i % y.row_count) (j % y.column_count)) % x.prime in
    let items = with_items_is c.in_ok-cells.cells out (omega arith) in
    let rows = rows-kron x y a b out c.prime-p.result n m k l c.cells-outer.ensures c.cells-inner.ensures (c.prime-p.ensures.value ∙ ep) en em ek el c.kron.ensures in
    let tall : n * k ≡ x.row_count * y.row_count = ap (λ w. w * k) en ∙ ap (λ w. x.row_count * w) ek in
    let wide : m * l ≡ x.column_count * y.column_count = ap (λ w. w * l) em ∙ ap (λ w. x.column_count * w) el in
    filled_residues p x.prime (n * k) (m * l) _ out f ep items rows
    (λ i j lt below. remainder_small c.prime-p.result x.prime (entry x.entries (i / y.row_count) (j / y.column_count) * entry y.entries (i % y.row_count) (j % y.column_count)) (c.prime-p.ensures.value ∙ ep) c.prime-p.ensures.low)

pub returns : goal.returns
returns c =
    let x = c.args.self.now in
    let y = c.args.b.now in
    let a = c.cells-outer.result.now in
    let b = c.cells-inner.result.now in
    let p = c.field-field.result in
    let n = c.rows-height.result in
    let m = c.cols-width.result in
    let k = c.rows-rows.result in
    let l = c.cols-cols.result in
    let ep = c.field-field.ensures.value in
    let en = c.rows-height.ensures.value in
    let em = c.cols-width.ensures.value in
    let ek = c.rows-rows.ensures.value in
    let el = c.cols-cols.ensures.value in
    let out = c.kron.new.out in
    let f = λ (i j : ℕ). (entry x.entries (i / y.row_count) (j / y.column_count) * entry y.entries (i % y.row_count) (j % y.column_count)) % x.prime in
    let items = with_items_is c.in_ok-cells.cells out (omega arith) in
    let rows = rows-kron x y a b out c.prime-p.result n m k l c.cells-outer.ensures c.cells-inner.ensures (c.prime-p.ensures.value ∙ ep) en em ek el c.kron.ensures in
    let tall : n * k ≡ x.row_count * y.row_count = ap (λ w. w * k) en ∙ ap (λ w. x.row_count * w) ek in
    let wide : m * l ≡ x.column_count * y.column_count = ap (λ w. w * l) em ∙ ap (λ w. x.column_count * w) el in (
      c.from_cells.ensures ∙ filled_matrix p x.prime (n * k) (x.row_count * y.row_count) (m * l) (x.column_count * y.column_count) _ out f ep tall wide items rows,
      fits_same (x.row_count * y.row_count) (x.column_count * y.column_count) (n * k) (m * l) (sym tall) (sym wide) (search rules),
    )
