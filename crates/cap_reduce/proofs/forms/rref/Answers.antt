use Rattle.std.proofs.Common.{◌≡◌, ℕ, ◌+◌, ◌*◌, ◌<◌, length, get_or, take, sym, ap, ◌∙◌, subst, arith}
use Rattle.std.proofs.lemmas.List.{with_items_is, get_or-take}
use Rattle.std.proofs.lemmas.Nat.{mul-add-lt}
use Rattle.cap_matrix.specs.Buffer.{matrix_of}
use Rattle.cap_matrix.specs.Grid.{Grid}
use Rattle.cap_matrix.specs.Reduced.{IsReducedForm}
use Rattle.cap_matrix.proofs.Writes.{by_places}
use Rattle.cap_reduce.specs.Flat.{cell}
use Rattle.cap_reduce.proofs.FormAnswers.{fits_fewer, form_of_buffer}
use Rattle.cap_reduce.proofs.Made.{IsHeld, held, matrix_of_is}
use Rattle.cap_reduce.proofs.forms.rref.Goals as goal

pub from_cells-requires-clause-size : goal.from_cells-requires-clause-size
from_cells-requires-clause-size c =
    let H = held c.field-field.result c.rows-rows.result c.cols-cols.result c.args.m.now c.cells.result.now
    (sym c.field-field.ensures.value) (sym c.rows-rows.ensures.value) (sym c.cols-cols.ensures.value) c.cells.ensures in
    fits_fewer c.reduce_flat-rank.result c.rows-rows.result c.cols-cols.result c.reduce_flat-rank.ensures.cleared.1.few H.flat.size

pub from_cells-requires-clause-residues : goal.from_cells-requires-clause-residues
from_cells-requires-clause-residues c =
    let p = c.field-field.result in
    let r = c.reduce_flat-rank.result in
    let w = c.cols-cols.result in
    let now = c.reduce_flat-rank.new.cells in
    let long : length now ≡ c.in_ok-cells.cells.len = omega arith in
    let few = c.reduce_flat-rank.ensures.cleared.1.few in
    subst (λ xs. (k : ℕ) → k < r * w → get_or xs k 0 < p) (sym (c.truncate.ensures.items ∙ ap (take (r * w)) (with_items_is c.in_ok-cells.cells now long)))
    (λ k lt. subst (λ y. y < p) (sym (get_or-take (r * w) now k 0 lt))
    (by_places p r w now (λ i j under below. c.reduce_flat-rank.ensures.cleared.1.residues i j (omega arith) below) k lt))

pub returns : goal.returns
returns c =
    let p = c.field-field.result in
    let n = c.rows-rows.result in
    let w = c.cols-cols.result in
    let r = c.reduce_flat-rank.result in
    let m = c.args.m.now in
    let now = c.reduce_flat-rank.new.cells in
    let long : length now ≡ c.in_ok-cells.cells.len = omega arith in
    let H = held p n w m c.cells.result.now (sym c.field-field.ensures.value) (sym c.rows-rows.ensures.value) (sym c.cols-cols.ensures.value) c.cells.ensures in
    let copied : c.cells.result.now ≡ c.deref_mut.result.now = sym (c.deref_mut.ensures.value ∙ c.in_ok-cells.ensures.items_if_clones_equal (λ x y h. h)) in
    let kept : c.truncate.new.self.items ≡ take (r * w) now = c.truncate.ensures.items ∙ ap (take (r * w)) (with_items_is c.in_ok-cells.cells now long) in
    subst (λ (g : Grid). IsReducedForm m g)
    (sym (c.from_cells.ensures ∙ ap (matrix_of p r w) kept
    ∙ matrix_of_is p r w (take (r * w) now) (cell now w) (λ i j lt below. get_or-take (r * w) now (i * w + j) 0 (omega (arith, mul-add-lt i w j r lt below)))))
    (form_of_buffer p n w m c.deref_mut.result.now now r c.reduce_flat-rank.ensures.cleared.0 (subst (λ xs. IsHeld p n w m xs) copied H)
    c.reduce_flat-rank.ensures.span c.reduce_flat-rank.ensures.cleared.1)
