use Rattle.std.proofs.Common.{◌≡◌, ℕ, ◌+◌, ◌<◌, List, ◌++◌, get_or, sym, ap, ◌∙◌, subst, arith}
use Rattle.cap_laws.specs.Table.{width_of}
use Rattle.cap_add_laws.specs.Closure.{joined, sum_list, widths_of}
use Rattle.cap_addclosure.specs.TwoSided.{two_sided, IsStack}
use Rattle.cap_addclosure.proofs.Stacks.{stack-none}
use Rattle.cap_addclosure.proofs.TwoSidedRows.{rows-more}
use Rattle.cap_addclosure.proofs.two_sided.rows_of_place.Goals as goal

pub two_sided_row-requires-clause-element : goal.two_sided_row-requires-clause-element
two_sided_row-requires-clause-element g c =
    let T = g.T.Table.table c.args.table.now in
    let a = c.parts-a.ensures.value ∙ c.target.ensures in
    let b = c.parts-b.ensures.value ∙ c.source.ensures in
    let wide = c.width-t-end.ensures.value ∙ ap (λ (z : List ℕ). width_of T (get_or z c.args.i 0) (get_or c.parts-b.result.now c.args.j 0)) a ∙ ap (λ (z : List ℕ). width_of T (get_or c.args.l.now.to c.args.i 0) (get_or z c.args.j 0)) b in
    subst (λ n. c.loop-t.t < n) wide c.loop-t-test.true

pub loop-t-init : goal.loop-t-init
loop-t-init g c =
    let T = g.T.Table.table c.args.table.now in
    let R = λ (t : ℕ). joined (two_sided T c.args.l.now c.args.r.now c.args.i c.args.j t).entries in
    let m = sum_list (widths_of T c.args.l.now.from c.args.r.now.to) in
    subst (λ (z : List ℕ). IsStack 0 m R z) (sym c.new-rows.ensures.items) (stack-none m R)

pub loop-t-preserved : goal.loop-t-preserved
loop-t-preserved g c =
    let T = g.T.Table.table c.args.table.now in
    let V = g.met.T.Table.valid c.args.table.now in
    let l = c.args.l.now in
    let r = c.args.r.now in
    let i = c.args.i in
    let j = c.args.j in
    let t = c.loop-t.t in
    let a = c.parts-a.ensures.value ∙ c.target.ensures in
    let b = c.parts-b.ensures.value ∙ c.source.ensures in
    let wide = c.width-t-end.ensures.value ∙ ap (λ (z : List ℕ). width_of T (get_or z i 0) (get_or c.parts-b.result.now j 0)) a ∙ ap (λ (z : List ℕ). width_of T (get_or l.to i 0) (get_or z j 0)) b in
    let lt : t < width_of T (get_or l.to i 0) (get_or r.from j 0) = subst (λ n. t < n) wide c.loop-t-test.true in
    let R = λ (t : ℕ). joined (two_sided T l r i j t).entries in
    let m = sum_list (widths_of T l.from r.to) in
    subst (λ (z : List ℕ). IsStack (t + 1) m R z) (sym (c.in_ok-extend_from_slice.ensures.items ∙ ap (λ (z : List ℕ). c.loop-t.rows.items ++ z) c.deref.ensures.value))
    (rows-more V l r c.requires.left c.requires.right i j t c.requires.row c.requires.column lt c.loop-t.rows.items c.in_ok-row.row.items c.loop-t.invariant c.in_ok-row.ensures)

pub returns : goal.returns
returns g c =
    let T = g.T.Table.table c.args.table.now in
    let l = c.args.l.now in
    let r = c.args.r.now in
    let i = c.args.i in
    let j = c.args.j in
    let a = c.parts-a.ensures.value ∙ c.target.ensures in
    let b = c.parts-b.ensures.value ∙ c.source.ensures in
    let wide = c.width-t-end.ensures.value ∙ ap (λ (z : List ℕ). width_of T (get_or z i 0) (get_or c.parts-b.result.now j 0)) a ∙ ap (λ (z : List ℕ). width_of T (get_or l.to i 0) (get_or z j 0)) b in
    let end : c.loop-t.t ≡ c.width-t-end.result = omega (arith, c.loop-t-test.false, c.loop-t.auto.t-end) in
    subst (λ n. IsStack n (sum_list (widths_of T l.from r.to)) (λ (t : ℕ). joined (two_sided T l r i j t).entries) c.loop-t.rows.items) (end ∙ wide) c.loop-t.invariant
