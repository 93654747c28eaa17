use Rattle.std.proofs.Common.{◌≡◌, ◌-◌, length, sym, ap, ◌∙◌, subst, arith}
use Rattle.std.specs.Vec.{with_items}
use Rattle.std.proofs.lemmas.List.{with_items_is}
use Rattle.cap_field.proofs.Fermat.{tabled_range}
use Rattle.cap_reduce.specs.Flat.{cell}
use Rattle.cap_reduce.specs.NullTable.{IsNullTableMade}
use Rattle.cap_reduce.proofs.Kept.{reduced_at_end}
use Rattle.cap_reduce.proofs.NullAnswer.{few_leads, null_answer}
use Rattle.cap_reduce.proofs.Made.{held}
use Rattle.cap_reduce.proofs.nulls.null_rows.Goals as goal

pub null_rows_of_reduced-requires-clause-few : goal.null_rows_of_reduced-requires-clause-few
null_rows_of_reduced-requires-clause-few c =
    let lead = c.reduce_flat-rank.ensures.cleared.0 in
    let u = cell c.reduce_flat-rank.new.cells c.rows-rows.result in
    few_leads c.field-field.result c.reduce_flat-rank.result c.rows-rows.result u lead
    (reduced_at_end c.field-field.result c.cols-cols.result c.rows-rows.result u lead c.reduce_flat-rank.result c.reduce_flat-rank.ensures.cleared.1)

pub returns : goal.returns
returns c =
    let p = c.field-field.result in
    let n = c.rows-rows.result in
    let w = c.cols-cols.result in
    let m = c.args.m.now in
    let H = held p n w m c.cells.result.now (sym c.field-field.ensures.value) (sym c.rows-rows.ensures.value) (sym c.cols-cols.ensures.value) c.cells.ensures in
    let turned = c.in_ok-turned.turned in
    let long : length c.turn.new.turned ≡ turned.len = omega arith in
    let before : c.deref_mut-2.result.now ≡ c.turn.new.turned = c.deref_mut-2.ensures.value ∙ with_items_is turned c.turn.new.turned long in
    let long2 : length c.reduce_flat-rank.new.cells ≡ turned.len = omega arith in
    let after : c.deref.result.now ≡ c.reduce_flat-rank.new.cells =
    c.deref.ensures.value ∙ with_items_is (with_items turned c.turn.new.turned) c.reduce_flat-rank.new.cells long2 in
    let made = c.null_rows_of_reduced.ensures in
    null_answer c.reduce_flat-rank.result (cell c.deref_mut-2.result.now n) (cell c.reduce_flat-rank.new.cells n) c.reduce_flat-rank.ensures.cleared.0 made.0
    c.null_rows_of_reduced.result (tabled_range p H.flat.tabled).0 H.matrix
    (λ j i lt below. ap (λ xs. cell xs n j i) before ∙ c.turn.ensures j i lt below ∙ sym (H.cell_at (n - 1 - i) j (omega arith) lt))
    c.reduce_flat-rank.ensures.span c.reduce_flat-rank.ensures.cleared.1
    (subst (λ xs. IsNullTableMade p c.reduce_flat-rank.result n (cell xs n) made.0 c.null_rows_of_reduced.result) after made.1)
