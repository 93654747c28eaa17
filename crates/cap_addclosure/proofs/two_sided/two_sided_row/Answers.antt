use Rattle.std.proofs.Common.{◌≡◌, ℕ, ◌+◌, ◌*◌, ◌<◌, List, [], ◌++◌, map, length, get_or, sym, ap, ◌∙◌, subst, arith}
use Rattle.std.specs.List.{range_with_len}
use Rattle.std.proofs.Math.Nat.{zero-mul}
use Rattle.cap_laws.specs.Table.{IsRow, table_data, width_of}
use Rattle.cap_homlaw.specs.Rows.{unit_row}
use Rattle.cap_add_laws.specs.Closure.{entry_of, joined}
use Rattle.cap_addclosure.proofs.Built.{first_entries, rows-next}
use Rattle.cap_addclosure.proofs.TwoSidedRows.{two_sided_piece, element-row, left-row}
use Rattle.cap_addclosure.proofs.two_sided.two_sided_row.Goals as goal

pub combined-requires-clause-left : goal.combined-requires-clause-left
combined-requires-clause-left g c =
    let T = g.T.Table.table c.args.table.now in
    let l = c.args.l.now in
    let i = c.args.i in
    let u = c.loop-u.u in
    let x = c.parts-x.ensures.value ∙ c.source.ensures in
    let a = c.parts-a.ensures.value ∙ c.target.ensures in
    let hu : u < length l.from = subst (λ (z : List ℕ). u < length z) x c.loop-u-test.true in
    subst (λ (z : List ℕ). IsRow T (get_or z u 0) (get_or c.parts-a.result.now i 0) c.entry-factor.result.now) (sym x)
    (subst (λ (z : List ℕ). IsRow T (get_or l.from u 0) (get_or z i 0) c.entry-factor.result.now) (sym a)
    (subst (λ (z : List ℕ). IsRow T (get_or l.from u 0) (get_or l.to i 0) z) (sym c.entry-factor.ensures) (c.requires.left.rows u i hu c.requires.row)))

pub combined-requires-clause-right : goal.combined-requires-clause-right
combined-requires-clause-right g c =
    let T = g.T.Table.table c.args.table.now in
    let V = g.met.T.Table.valid c.args.table.now in
    let l = c.args.l.now in
    let r = c.args.r.now in
    let i = c.args.i in
    let j = c.args.j in
    let a = c.parts-a.ensures.value ∙ c.target.ensures in
    let b = c.parts-b.ensures.value ∙ c.source-2.ensures in
    let wide = c.width.ensures.value ∙ ap (λ (z : List ℕ). width_of T (get_or z i 0) (get_or c.parts-b.result.now j 0)) a ∙ ap (λ (z : List ℕ). width_of T (get_or l.to i 0) (get_or z j 0)) b in
    subst (λ (z : List ℕ). IsRow T (get_or z i 0) (get_or c.parts-b.result.now j 0) c.deref.result.now) (sym a)
    (subst (λ (z : List ℕ). IsRow T (get_or l.to i 0) (get_or z j 0) c.deref.result.now) (sym b)
    (subst (λ (z : List ℕ). IsRow T (get_or l.to i 0) (get_or r.from j 0) z) (sym (c.deref.ensures.value ∙ c.in_ok-element.ensures ∙ ap (λ n. unit_row n c.args.t) wide))
    (element-row V (get_or l.to i 0) (get_or r.from j 0) c.args.t)))

pub row_of_products-requires-clause-combination : goal.row_of_products-requires-clause-combination
row_of_products-requires-clause-combination g c =
    let T = g.T.Table.table c.args.table.now in
    let V = g.met.T.Table.valid c.args.table.now in
    let l = c.args.l.now in
    let r = c.args.r.now in
    let i = c.args.i in
    let j = c.args.j in
    let t = c.args.t in
    let u = c.loop-u.u in
    let x = c.parts-x.ensures.value ∙ c.source.ensures in
    let a = c.parts-a.ensures.value ∙ c.target.ensures in
    let b = c.parts-b.ensures.value ∙ c.source-2.ensures in
    let xs = c.parts-x.result.now in
    let ys = c.parts-a.result.now in
    let zs = c.parts-b.result.now in
    let wide = c.width.ensures.value ∙ ap (λ (z : List ℕ). width_of T (get_or z i 0) (get_or zs j 0)) a ∙ ap (λ (z : List ℕ). width_of T (get_or l.to i 0) (get_or z j 0)) b in
    let made = λ (p q s v e : List ℕ). ((table_data T).compose (record { from = get_or p u 0; to = get_or q i 0; coefficients = v }) (record { from = get_or q i 0; to = get_or s j 0; coefficients = e })).coefficients in
    let is = c.in_ok-w.ensures
    ∙ ap (λ p. made p ys zs c.entry-factor.result.now c.deref.result.now) x
    ∙ ap (λ q. made l.from q zs c.entry-factor.result.now c.deref.result.now) a
    ∙ ap (λ s. made l.from l.to s c.entry-factor.result.now c.deref.result.now) b
    ∙ ap (λ v. made l.from l.to r.from v c.deref.result.now) c.entry-factor.ensures
    ∙ ap (λ e. made l.from l.to r.from (get_or l.entries (u * length l.to + i) []) e) (c.deref.ensures.value ∙ c.in_ok-element.ensures ∙ ap (λ n. unit_row n t) wide) in
    let hu : u < length l.from = subst (λ (z : List ℕ). u < length z) x c.loop-u-test.true in
    subst (λ (z : List ℕ). IsRow T (get_or z u 0) (get_or r.from j 0) c.deref-in-loop-u.result.now) (sym x)
    (subst (λ (z : List ℕ). IsRow T (get_or l.from u 0) (get_or r.from j 0) z) (sym (c.deref-in-loop-u.ensures.value ∙ is))
    (left-row V l r c.requires.left c.requires.right u i j t hu c.requires.row c.requires.column))

pub loop-u-init : goal.loop-u-init
loop-u-init g c =
    let T = g.T.Table.table c.args.table.now in
    let l = c.args.l.now in
    let r = c.args.r.now in
    c.new-row.ensures.items ∙ ap (λ n. joined (first_entries l.from r.to (two_sided_piece T l r c.args.i c.args.j c.args.t) n)) (sym (zero-mul (length r.to)))

pub loop-u-preserved : goal.loop-u-preserved
loop-u-preserved g c =
    let T = g.T.Table.table c.args.table.now in
    let V = g.met.T.Table.valid c.args.table.now in
    let l = c.args.l.now in
    let r = c.args.r.now in
    let i = c.args.i in
    let j = c.args.j in
    let t = c.args.t in
    let u = c.loop-u.u in
    let x = c.parts-x.ensures.value ∙ c.source.ensures in
    let a = c.parts-a.ensures.value ∙ c.target.ensures in
    let b = c.parts-b.ensures.value ∙ c.source-2.ensures in
    let xs = c.parts-x.result.now in
    let ys = c.parts-a.result.now in
    let zs = c.parts-b.result.now in
    let wide = c.width.ensures.value ∙ ap (λ (z : List ℕ). width_of T (get_or z i 0) (get_or zs j 0)) a ∙ ap (λ (z : List ℕ). width_of T (get_or l.to i 0) (get_or z j 0)) b in
    let made = λ (p q s v e : List ℕ). ((table_data T).compose (record { from = get_or p u 0; to = get_or q i 0; coefficients = v }) (record { from = get_or q i 0; to = get_or s j 0; coefficients = e })).coefficients in
    let is = c.in_ok-w.ensures
    ∙ ap (λ p. made p ys zs c.entry-factor.result.now c.deref.result.now) x
    ∙ ap (λ q. made l.from q zs c.entry-factor.result.now c.deref.result.now) a
    ∙ ap (λ s. made l.from l.to s c.entry-factor.result.now c.deref.result.now) b
    ∙ ap (λ v. made l.from l.to r.from v c.deref.result.now) c.entry-factor.ensures
    ∙ ap (λ e. made l.from l.to r.from (get_or l.entries (u * length l.to + i) []) e) (c.deref.ensures.value ∙ c.in_ok-element.ensures ∙ ap (λ n. unit_row n t) wide) in
    let F = two_sided_piece T l r i j t in
    let parts = λ (p w : List ℕ). joined (map (λ v. ((table_data T).compose (record { from = get_or p u 0; to = get_or r.from j 0; coefficients = w }) (entry_of r j v)).coefficients) (range_with_len 0 (length r.to))) in
    c.in_ok-extend_from_slice.ensures.items
    ∙ ap (λ (z : List ℕ). z ++ c.deref-in-loop-u-2.result.now) c.loop-u.invariant
    ∙ ap (λ (z : List ℕ). joined (first_entries l.from r.to F (u * length r.to)) ++ z)
    (c.deref-in-loop-u-2.ensures.value ∙ c.in_ok-part.ensures ∙ ap (λ p. parts p c.deref-in-loop-u.result.now) x ∙ ap (λ w. parts l.from w) (c.deref-in-loop-u.ensures.value ∙ is))
    ∙ sym (rows-next l.from r.to F u)

pub returns : goal.returns
returns g c =
    let T = g.T.Table.table c.args.table.now in
    let l = c.args.l.now in
    let r = c.args.r.now in
    let F = two_sided_piece T l r c.args.i c.args.j c.args.t in
    let done : c.loop-u.u ≡ length c.parts-x.result.now = omega (arith, c.loop-u-test.false, c.loop-u.auto.u-end) in
    c.loop-u.invariant ∙ ap (λ n. joined (first_entries l.from r.to F (n * length r.to))) (done ∙ ap (λ (z : List ℕ). length z) (c.parts-x.ensures.value ∙ c.source.ensures))
