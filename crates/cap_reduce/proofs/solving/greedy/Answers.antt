use Rattle.std.proofs.Common.{◌≡◌, ◌<◌, length, sym, ap, ◌∙◌, subst, arith, zero-add}
use Rattle.std.specs.Vec.{with_items}
use Rattle.std.proofs.lemmas.List.{with_items_is}
use Rattle.cap_field.proofs.Fermat.{tabled_range}
use Rattle.cap_matrix.specs.Reduced.{IsReducedBy}
use Rattle.cap_matrix.proofs.Entries.{small-at}
use Rattle.cap_reduce.specs.Answers.{IsGreedy}
use Rattle.cap_reduce.specs.Flat.{cell}
use Rattle.cap_reduce.proofs.Kept.{reduced_at_end}
use Rattle.cap_reduce.proofs.Leads.{at}
use Rattle.cap_reduce.proofs.LeadList.{greedy_of_table}
use Rattle.cap_reduce.proofs.Made.{held}
use Rattle.cap_reduce.proofs.solving.greedy.Goals as goal

pub reduce_flat-rank-requires-clause-residues : goal.reduce_flat-rank-requires-clause-residues
reduce_flat-rank-requires-clause-residues c = λ j i lt below.
    let p = c.field.result in
    let n = c.rows-rows.result in
    let w = c.cols-cols.result in
    let H = held p n w c.args.m.now c.cells.result.now (sym c.field.ensures.value) (sym c.rows-rows.ensures.value) (sym c.cols-cols.ensures.value) c.cells.ensures in
    let table = c.in_ok-table.table in
    let out = c.write_transpose.new.out in
    let long : length out ≡ table.len = omega arith in
    let e = ap (λ xs. cell xs n j i) (c.deref_mut-2.ensures.value ∙ with_items_is table out long) ∙ ap (λ z. cell out n j z) (sym (zero-add i))
    ∙ c.write_transpose.ensures.written j i lt below ∙ sym (H.cell_at i j below lt) in
    subst (λ z. z < p) (sym e) (small-at H.matrix i j below lt)

pub returns : goal.returns
returns c =
    let p = c.field.result in
    let n = c.rows-rows.result in
    let w = c.cols-cols.result in
    let m = c.args.m.now in
    let r = c.reduce_flat-rank.result in
    let now = c.reduce_flat-rank.new.cells in
    let lead = c.reduce_flat-rank.ensures.cleared.0 in
    let H = held p n w m c.cells.result.now (sym c.field.ensures.value) (sym c.rows-rows.ensures.value) (sym c.cols-cols.ensures.value) c.cells.ensures in
    let table = c.in_ok-table.table in
    let long : length c.write_transpose.new.out ≡ table.len = omega arith in
    let before : c.deref_mut-2.result.now ≡ c.write_transpose.new.out = c.deref_mut-2.ensures.value ∙ with_items_is table c.write_transpose.new.out long in
    let long2 : length now ≡ table.len = omega arith in
    let after : c.deref.result.now ≡ now = c.deref.ensures.value ∙ with_items_is (with_items table c.write_transpose.new.out) now long2 in
    let cleared = c.reduce_flat-rank.ensures.cleared.1 in
    subst (λ xs. IsGreedy m xs) (sym c.new.ensures)
    (greedy_of_table r (cell c.deref_mut-2.result.now n) (cell now n) lead (at c.scan_leads.new.place) (at c.scan_leads.new.free) c.in_ok-lead_list.field-0.items
    (tabled_range p H.flat.tabled).0 H.matrix
    (λ j i lt below. ap (λ xs. cell xs n j i) before ∙ ap (λ z. cell c.write_transpose.new.out n j z) (sym (zero-add i)) ∙ c.write_transpose.ensures.written j i lt below ∙ sym (H.cell_at i j below lt))
    c.reduce_flat-rank.ensures.span cleared
    (c.scan_leads.ensures p lead (subst (λ xs. IsReducedBy p r n (cell xs n) lead) (sym after) (reduced_at_end p w n (cell now n) lead r cleared)))
    c.in_ok-lead_list.ensures)
