use Rattle.std.proofs.Common.{◌≡◌, ◌*◌, ◌%◌, length, get_or, sym, ap, ◌∙◌, subst, arith}
use Rattle.std.proofs.lemmas.List.{with_items_is}
use Rattle.cap_field.proofs.Fermat.{tabled_range}
use Rattle.cap_matrix.specs.Grid.{total}
use Rattle.cap_matrix.specs.Reduced.{IsReducedBy, IsObstruction}
use Rattle.cap_reduce.specs.Flat.{cell}
use Rattle.cap_reduce.specs.NullTable.{IsNullColumn, null_value}
use Rattle.cap_reduce.proofs.Kept.{reduced_at_end}
use Rattle.cap_reduce.proofs.Leads.{at}
use Rattle.cap_reduce.proofs.Made.{held}
use Rattle.cap_reduce.proofs.SolveAnswers.{obstruction_of_table, in_span_of_table}
use Rattle.cap_reduce.proofs.obstructed.obstruction.Goals as goal

pub returns-in-Some : goal.returns-in-Some
returns-in-Some c =
    let p = c.field-field.result in
    let n = c.rows-rows.result in
    let w = c.cols-cols.result in
    let m = c.args.m.now in
    let v = c.args.v.now in
    let r = c.reduce_flat-rank.result in
    let now = c.reduce_flat-rank.new.cells in
    let lead = c.reduce_flat-rank.ensures.cleared.0 in
    let cleared = c.reduce_flat-rank.ensures.cleared.1 in
    let place = at c.scan_leads.new.place in
    let H = held p n w m c.cells.result.now (sym c.field-field.ensures.value) (sym c.rows-rows.ensures.value) (sym c.cols-cols.ensures.value) c.cells.ensures in
    let copied : c.deref_mut.result.now ≡ c.cells.result.now = c.deref_mut.ensures.value ∙ c.in_ok-cells.ensures.items_if_clones_equal (λ x y h. h) in
    let long : length now ≡ c.in_ok-cells.cells.len = omega arith in
    let after : c.deref.result.now ≡ now = c.deref.ensures.value ∙ with_items_is c.in_ok-cells.cells now long in
    let after2 : c.deref-2.result.now ≡ now = c.deref-2.ensures.value ∙ with_items_is c.in_ok-cells.cells now long in
    let y = c.find_obstruction.new.y in
    let ylong : length y ≡ c.in_ok-y.y.len = omega arith in
    let found = subst (λ xs. IsNullColumn c.prime.result r w (cell xs w) place (λ j. get_or v j 0) c.in-Some.field-0 y) after2 c.in-Some.ensures in
    subst (λ ys. IsObstruction m v ys) (sym (c.new.ensures ∙ with_items_is c.in_ok-y.y y ylong))
    (obstruction_of_table v y r (cell c.deref_mut.result.now w) (cell now w) lead place (at c.scan_leads.new.free) (tabled_range p H.flat.tabled).0 H.matrix
    (λ i j lt below. ap (λ xs. cell xs w i j) copied ∙ sym (H.cell_at i j lt below))
    c.reduce_flat-rank.ensures.span cleared
    (c.scan_leads.ensures p lead (subst (λ xs. IsReducedBy p r w (cell xs w) lead) (sym after) (reduced_at_end p n w (cell now w) lead r cleared)))
    c.in-Some.field-0 (omega (arith, c.in_ok-y.ensures.len, ylong))
    (subst (λ q. IsNullColumn q r w (cell now w) place (λ j. get_or v j 0) c.in-Some.field-0 y) c.prime.ensures.value found))

pub returns : goal.returns
returns c =
    let p = c.field-field.result in
    let n = c.rows-rows.result in
    let w = c.cols-cols.result in
    let m = c.args.m.now in
    let v = c.args.v.now in
    let r = c.reduce_flat-rank.result in
    let now = c.reduce_flat-rank.new.cells in
    let lead = c.reduce_flat-rank.ensures.cleared.0 in
    let cleared = c.reduce_flat-rank.ensures.cleared.1 in
    let place = at c.scan_leads.new.place in
    let H = held p n w m c.cells.result.now (sym c.field-field.ensures.value) (sym c.rows-rows.ensures.value) (sym c.cols-cols.ensures.value) c.cells.ensures in
    let copied : c.deref_mut.result.now ≡ c.cells.result.now = c.deref_mut.ensures.value ∙ c.in_ok-cells.ensures.items_if_clones_equal (λ x y h. h) in
    let long : length now ≡ c.in_ok-cells.cells.len = omega arith in
    let after : c.deref.result.now ≡ now = c.deref.ensures.value ∙ with_items_is c.in_ok-cells.cells now long in
    let after2 : c.deref-2.result.now ≡ now = c.deref-2.ensures.value ∙ with_items_is c.in_ok-cells.cells now long in
    let wide : length v ≡ w = omega (arith, c.requires.width, c.cols-cols.ensures.value) in
    in_span_of_table v c.find_obstruction.new.y r (cell c.deref_mut.result.now w) (cell now w) lead place (at c.scan_leads.new.free) (tabled_range p H.flat.tabled).0 H.matrix
    (λ i j lt below. ap (λ xs. cell xs w i j) copied ∙ sym (H.cell_at i j lt below))
    c.reduce_flat-rank.ensures.span cleared
    (c.scan_leads.ensures p lead (subst (λ xs. IsReducedBy p r w (cell xs w) lead) (sym after) (reduced_at_end p n w (cell now w) lead r cleared)))
    wide (λ j lt. omega (arith, c.requires.residues j (omega arith), c.field-field.ensures.value))
    (λ f lt out. ap (λ q. total w (λ k. get_or v k 0 * null_value q r (cell now w) place f k) % q) (sym c.prime.ensures.value)
    ∙ ap (λ xs. total w (λ k. get_or v k 0 * null_value c.prime.result r (cell xs w) place f k) % c.prime.result) (sym after2)
    ∙ c.in-None.ensures f lt out)
