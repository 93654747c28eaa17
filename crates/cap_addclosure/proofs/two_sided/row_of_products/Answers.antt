use Rattle.std.proofs.Common.{◌≡◌, ℕ, ◌<◌, List, ◌++◌, map, length, get_or, sym, ap, ◌∙◌, subst, arith}
use Rattle.std.specs.List.{range_with_len}
use Rattle.cap_laws.specs.Table.{IsRow, table_data}
use Rattle.cap_add_laws.specs.Closure.{entry_of, joined}
use Rattle.cap_addclosure.proofs.Built.{joined-more}
use Rattle.cap_addclosure.proofs.two_sided.row_of_products.Goals as goal

pub combined-requires-clause-left : goal.combined-requires-clause-left
combined-requires-clause-left g c = subst (λ (z : List ℕ). IsRow (g.T.Table.table c.args.table.now) c.args.x (get_or z c.args.j 0) c.args.w.now) (sym (c.parts-b.ensures.value ∙ c.source.ensures)) c.requires.combination

pub combined-requires-clause-right : goal.combined-requires-clause-right
combined-requires-clause-right g c =
    let T = g.T.Table.table c.args.table.now in
    let r = c.args.r.now in
    let j = c.args.j in
    let v = c.loop-v.v in
    let b = c.parts-b.ensures.value ∙ c.source.ensures in
    let y = c.parts-y.ensures.value ∙ c.target.ensures in
    let hv : v < length r.to = subst (λ (z : List ℕ). v < length z) y c.loop-v-test.true in
    subst (λ (z : List ℕ). IsRow T (get_or z j 0) (get_or c.parts-y.result.now v 0) c.entry.result.now) (sym b)
    (subst (λ (z : List ℕ). IsRow T (get_or r.from j 0) (get_or z v 0) c.entry.result.now) (sym y)
    (subst (λ (z : List ℕ). IsRow T (get_or r.from j 0) (get_or r.to v 0) z) (sym c.entry.ensures) (c.requires.matrix.rows j v c.requires.row hv)))

pub loop-v-preserved : goal.loop-v-preserved
loop-v-preserved g c =
    let T = g.T.Table.table c.args.table.now in
    let r = c.args.r.now in
    let j = c.args.j in
    let v = c.loop-v.v in
    let x = c.args.x in
    let w = c.args.w.now in
    let b = c.parts-b.ensures.value ∙ c.source.ensures in
    let y = c.parts-y.ensures.value ∙ c.target.ensures in
    let made = λ (p q : List ℕ) (row : List ℕ). ((table_data T).compose (record { from = x; to = get_or p j 0; coefficients = w }) (record { from = get_or p j 0; to = get_or q v 0; coefficients = row })).coefficients in
    let f = λ (v : ℕ). ((table_data T).compose (record { from = x; to = get_or r.from j 0; coefficients = w }) (entry_of r j v)).coefficients in
    let is = c.in_ok-entry.ensures ∙ ap (λ p. made p c.parts-y.result.now c.entry.result.now) b ∙ ap (λ q. made r.from q c.entry.result.now) y ∙ ap (λ z. made r.from r.to z) c.entry.ensures in
    c.in_ok-extend_from_slice.ensures.items
    ∙ ap (λ (z : List ℕ). z ++ c.deref.result.now) c.loop-v.invariant
    ∙ ap (λ (z : List ℕ). joined (map f (range_with_len 0 v)) ++ z) (c.deref.ensures.value ∙ is)
    ∙ sym (joined-more f v)

pub returns : goal.returns
returns g c =
    let T = g.T.Table.table c.args.table.now in
    let r = c.args.r.now in
    let j = c.args.j in
    let f = λ (v : ℕ). ((table_data T).compose (record { from = c.args.x; to = get_or r.from j 0; coefficients = c.args.w.now }) (entry_of r j v)).coefficients in
    let done : c.loop-v.v ≡ length c.parts-y.result.now = omega (arith, c.loop-v-test.false, c.loop-v.auto.v-end) in
    c.loop-v.invariant ∙ ap (λ n. joined (map f (range_with_len 0 n))) (done ∙ ap (λ (z : List ℕ). length z) (c.parts-y.ensures.value ∙ c.target.ensures))
