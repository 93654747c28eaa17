use Rattle.std.proofs.Common.{◌≡◌, ◌+◌, ◌-◌, ◌<◌, length, sym, ap, ◌∙◌, subst, arith, List, ℕ}
use Rattle.std.proofs.lemmas.List.{with_items_is}
use Rattle.cap_matrix.specs.Reduced.{IsReducedBy}
use Rattle.cap_reduce.specs.Answers.{AreSolutions, IsFirstOutside}
use Rattle.cap_reduce.specs.Flat.{cell}
use Rattle.cap_reduce.specs.NullTable.{IsFirstLeft, IsNoneLeft, AreReadOff}
use Rattle.cap_reduce.proofs.SolveAnswers.{IsSystem, system, system-small, row_in, first_outside, all_solved, narrow_of_system}
use Rattle.cap_reduce.proofs.solving.solve_flat.Goals as goal

pub reduce_front-rank-requires-clause-residues : goal.reduce_front-rank-requires-clause-residues
reduce_front-rank-requires-clause-residues c = λ j i lt below.
    let p = c.field.result in
    let n = c.rows-n.result in
    let w = c.cols-w.result in
    let k = c.args.count in
    let t = c.in_ok-table.table.items in
    let S = system p n w k c.args.m.now c.args.rows.now t (sym c.field.ensures.value) (sym c.rows-n.ensures.value) (sym c.cols-w.ensures.value)
    c.field.ensures.matrix c.in_ok-table.ensures c.requires.size c.requires.residues in
    subst (λ xs. cell xs (n + k) j i < p) (sym c.deref_mut.ensures.value) (system-small p n w k c.args.m.now c.args.rows.now t S j i lt below)

pub returns-in-Some : goal.returns-in-Some
returns-in-Some c =
    let p = c.field.result in
    let n = c.rows-n.result in
    let w = c.cols-w.result in
    let k = c.args.count in
    let m = c.args.m.now in
    let rows = c.args.rows.now in
    let table = c.in_ok-table.table in
    let S = system p n w k m rows table.items (sym c.field.ensures.value) (sym c.rows-n.ensures.value) (sym c.cols-w.ensures.value)
    c.field.ensures.matrix c.in_ok-table.ensures c.requires.size c.requires.residues in
    let r = c.reduce_front-rank.result in
    let now = c.reduce_front-rank.new.cells in
    let long : length now ≡ table.len = omega arith in
    let after : c.deref.result.now ≡ now = c.deref.ensures.value ∙ with_items_is table now long in
    subst (λ x. IsFirstOutside m k (row_in x rows) (c.in-Some.column - n)) c.cols-w.ensures.value
    (first_outside p n w k m rows table.items S r c.deref_mut.result.now now c.reduce_front-rank.ensures.cleared.0 c.deref_mut.ensures.value
    c.reduce_front-rank.ensures.span c.reduce_front-rank.ensures.cleared.1 c.in-Some.column
    (subst (λ (xs : List ℕ). IsFirstLeft r w n (n + k) (cell xs (n + k)) c.in-Some.column) after c.in-Some.ensures))

pub returns : goal.returns
returns c =
    let p = c.field.result in
    let n = c.rows-n.result in
    let w = c.cols-w.result in
    let k = c.args.count in
    let m = c.args.m.now in
    let rows = c.args.rows.now in
    let table = c.in_ok-table.table in
    let S = system p n w k m rows table.items (sym c.field.ensures.value) (sym c.rows-n.ensures.value) (sym c.cols-w.ensures.value)
    c.field.ensures.matrix c.in_ok-table.ensures c.requires.size c.requires.residues in
    let r = c.reduce_front-rank.result in
    let now = c.reduce_front-rank.new.cells in
    let lead = c.reduce_front-rank.ensures.cleared.0 in
    let cleared = c.reduce_front-rank.ensures.cleared.1 in
    let span = c.reduce_front-rank.ensures.span in
    let first = c.deref_mut.result.now in
    let long : length now ≡ table.len = omega arith in
    let after : c.deref.result.now ≡ now = c.deref.ensures.value ∙ with_items_is table now long in
    let after2 : c.deref-in-None.result.now ≡ now = c.deref-in-None.ensures.value ∙ with_items_is table now long in
    let xs = c.in_ok-xs-in-None.xs.items in
    let R = narrow_of_system p n w k m rows table.items S r first now lead c.deref_mut.ensures.value span cleared in
    let read = subst (λ (ys : List ℕ). (q : ℕ) (l : ℕ → ℕ) → IsReducedBy q r n (cell ys (n + k)) l → AreReadOff r n k (cell ys (n + k)) l xs) after2 c.in_ok-xs-in-None.ensures p lead R in
    subst (λ (ys : List ℕ). AreSolutions m k (row_in m.column_count rows) ys) (sym c.new.ensures)
    (subst (λ x. AreSolutions m k (row_in x rows) xs) c.cols-w.ensures.value
    (all_solved p n w k m rows table.items S r first now lead c.deref_mut.ensures.value span cleared xs
    (subst (λ (ys : List ℕ). IsNoneLeft r w n (n + k) (cell ys (n + k))) after c.in-None.ensures) read))
