use Rattle.std.proofs.Common.{◌≡◌, ◌+◌, length, refl, sym, ap, ◌∙◌, subst, arith, zero-add}
use Rattle.std.specs.Vec.{with_items}
use Rattle.std.proofs.lemmas.List.{with_items_is}
use Rattle.cap_reduce.specs.Flat.{cell}
use Rattle.cap_reduce.specs.NullTable.{IsSystemTable}
use Rattle.cap_reduce.proofs.Made.{held}
use Rattle.cap_reduce.proofs.solving.system_table.Goals as goal

pub returns : goal.returns
returns c =
    let m = c.args.m.now in
    let k = c.args.count in
    let rows = c.args.rows.now in
    let n = c.rows-n.result in
    let w = c.cols-w.result in
    let table = c.in_ok-table.table in
    let first = c.write_transpose.new.out in
    let now = c.write_transpose-2.new.out in
    let H = held m.prime n w m c.cells.result.now refl (sym c.rows-n.ensures.value) (sym c.cols-w.ensures.value) c.cells.ensures in
    let long : length first ≡ table.len = omega arith in
    let between : c.deref_mut-2.result.now ≡ first = c.deref_mut-2.ensures.value ∙ with_items_is table first long in
    let long2 : length now ≡ table.len = omega arith in
    let filled = with_items_is (with_items table first) now long2 in
    let out = (with_items (with_items table first) now).items in
    subst (λ x. IsSystemTable x m.column_count k m rows out) c.rows-n.ensures.value (subst (λ x. IsSystemTable n x k m rows out) c.cols-w.ensures.value
    (subst (λ xs. IsSystemTable n w k m rows xs) (sym filled) (record {
      tabled = H.flat.tabled;
      long = omega (arith, long2, c.in_ok-table.ensures.len);
      turned = λ j i lt below. c.write_transpose-2.ensures.before j i lt below ∙ ap (λ xs. cell xs (n + k) j i) between
          ∙ ap (λ z. cell first (n + k) j z) (sym (zero-add i)) ∙ c.write_transpose.ensures.written j i lt below ∙ sym (H.cell_at i j below lt);
      beside = c.write_transpose-2.ensures.written;
    })))
