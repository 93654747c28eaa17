use Rattle.std.proofs.Common.{◌≡◌, ℕ, ◌*◌, ◌<◌, length, get_or, sym, ap, ◌∙◌, subst, arith}
use Rattle.std.proofs.lemmas.List.{with_items_is}
use Rattle.cap_matrix.specs.Buffer.{matrix_of, IsBufferOf}
use Rattle.cap_matrix.specs.Grid.{Grid}
use Rattle.cap_matrix.proofs.Writes.{by_places}
use Rattle.cap_reduce.specs.Answers.{IsReducedInPlace}
use Rattle.cap_reduce.proofs.FormAnswers.{form_in_place}
use Rattle.cap_reduce.proofs.Made.{IsHeld, held}
use Rattle.cap_reduce.proofs.forms.reduce_in_place.Goals as goal

pub from_cells-requires-clause-residues : goal.from_cells-requires-clause-residues
from_cells-requires-clause-residues c =
    let p = c.field-field.result in
    let n = c.rows-rows.result in
    let w = c.cols-cols.result in
    let now = c.reduce_flat-rank.new.cells in
    let long : length now ≡ c.into_cells-cells.result.len = omega arith in
    subst (λ xs. (k : ℕ) → k < n * w → get_or xs k 0 < p) (sym (with_items_is c.into_cells-cells.result now long))
    (by_places p n w now c.reduce_flat-rank.ensures.cleared.1.residues)

pub returns : goal.returns
returns c =
    let p = c.field-field.result in
    let n = c.rows-rows.result in
    let w = c.cols-cols.result in
    let r = c.reduce_flat-rank.result in
    let m = c.args.m.now in
    let now = c.reduce_flat-rank.new.cells in
    let long : length now ≡ c.into_cells-cells.result.len = omega arith in
    let B : IsBufferOf m c.into_cells-cells.result.items = subst (λ (g : Grid). IsBufferOf g c.into_cells-cells.result.items) c.take.ensures.taken c.into_cells-cells.ensures in
    let H = held p n w m c.into_cells-cells.result.items (sym c.field-field.ensures.value) (sym c.rows-rows.ensures.value) (sym c.cols-cols.ensures.value) B in
    subst (λ (g : Grid). IsReducedInPlace m g r)
    (sym (c.from_cells.ensures ∙ ap (matrix_of p n w) (with_items_is c.into_cells-cells.result now long)))
    (form_in_place p n w m c.deref_mut.result.now now r c.reduce_flat-rank.ensures.cleared.0
    (subst (λ xs. IsHeld p n w m xs) (sym c.deref_mut.ensures.value) H)
    c.reduce_flat-rank.ensures.span c.reduce_flat-rank.ensures.cleared.1)
