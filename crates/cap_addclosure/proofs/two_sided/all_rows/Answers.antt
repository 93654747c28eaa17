use Rattle.std.proofs.Common.{◌≡◌, ℕ, ◌+◌, ◌*◌, ◌/◌, ◌%◌, ◌<◌, List, ◌++◌, length, get_or, take, sym, ap, ◌∙◌, subst, arith}
use Rattle.cap_laws.specs.Table.{width_of}
use Rattle.cap_add_laws.specs.Closure.{joined, sum_list, widths_of}
use Rattle.cap_add_laws.proofs.Structure.{widths-many}
use Rattle.cap_addclosure.specs.TwoSided.{two_sided, IsStack}
use Rattle.cap_addclosure.proofs.Widths.{sum-all}
use Rattle.cap_addclosure.proofs.Stacks.{stack-none}
use Rattle.cap_addclosure.proofs.TwoSidedRows.{row_at, places-more}
use Rattle.cap_addclosure.proofs.two_sided.all_rows.Goals as goal

pub loop-k-init : goal.loop-k-init
loop-k-init g c =
    let T = g.T.Table.table c.args.table.now in
    let V = g.met.T.Table.valid c.args.table.now in
    let m = sum_list (widths_of T c.args.l.now.from c.args.r.now.to) in
    let R = row_at V c.args.l.now c.args.r.now c.requires.left c.requires.right in
    subst (λ (z : List ℕ). IsStack 0 m R z) (sym c.new-cells.ensures.items) (stack-none m R)

pub loop-k-preserved : goal.loop-k-preserved
loop-k-preserved g c =
    let T = g.T.Table.table c.args.table.now in
    let V = g.met.T.Table.valid c.args.table.now in
    let l = c.args.l.now in
    let r = c.args.r.now in
    let k = c.loop-k.k in
    let m = sum_list (widths_of T l.from r.to) in
    let R = row_at V l r c.requires.left c.requires.right in
    let rows = ap (λ (z : List ℕ). length z) (c.parts-rows.ensures.value ∙ c.target.ensures) in
    let cols = ap (λ (z : List ℕ). length z) (c.parts-cols.ensures.value ∙ c.source.ensures) in
    let lt : k < length l.to * length r.from = subst (λ n. k < length l.to * n) cols (subst (λ n. k < n * length c.parts-cols.result.now) rows c.loop-k-test.true) in
    let part = subst (λ n. IsStack (width_of T (get_or l.to (k / n) 0) (get_or r.from (k % n) 0)) m (λ t. joined (two_sided T l r (k / n) (k % n) t).entries) c.in_ok-part.part.items) cols c.in_ok-part.ensures in
    let n = sum_list (take (k + 1) (widths_of T l.to r.from)) in
    subst (λ (z : List ℕ). IsStack n m R z) (sym (c.in_ok-extend_from_slice.ensures.items ∙ ap (λ (z : List ℕ). c.loop-k.cells.items ++ z) c.deref.ensures.value))
    (places-more V l r c.requires.left c.requires.right k lt c.loop-k.cells.items c.in_ok-part.part.items c.loop-k.invariant part)

pub returns : goal.returns
returns g c =
    let T = g.T.Table.table c.args.table.now in
    let V = g.met.T.Table.valid c.args.table.now in
    let l = c.args.l.now in
    let r = c.args.r.now in
    let ws = widths_of T l.to r.from in
    let m = sum_list (widths_of T l.from r.to) in
    let R = row_at V l r c.requires.left c.requires.right in
    let rows = ap (λ (z : List ℕ). length z * length c.parts-cols.result.now) (c.parts-rows.ensures.value ∙ c.target.ensures) in
    let cols = ap (λ (z : List ℕ). length l.to * length z) (c.parts-cols.ensures.value ∙ c.source.ensures) in
    let end : c.loop-k.k ≡ length c.parts-rows.result.now * length c.parts-cols.result.now = omega (arith, c.loop-k-test.false, c.loop-k.auto.k-end) in
    subst (λ n. IsStack n m R c.loop-k.cells.items) (ap (λ n. sum_list (take n ws)) (end ∙ rows ∙ cols ∙ sym (widths-many T l.to r.from)) ∙ sum-all ws) c.loop-k.invariant
