use Rattle.std.proofs.Common.{◌≡◌, ℕ, ◌*◌, ◌/◌, ◌%◌, List, length, get_or, ap, ◌∙◌, arith}
use Rattle.cap_laws.specs.Table.{table_data}
use Rattle.cap_add_laws.specs.Closure.{entry_of, sum_below}
use Rattle.cap_addclosure.proofs.Built.{entry-next, all-entries}
use Rattle.cap_addclosure.proofs.compose.product_entries.Goals as goal

pub loop-k-preserved : goal.loop-k-preserved
loop-k-preserved g c =
    let T = g.T.Table.table c.args.table.now in
    let f = c.args.f.now in
    let h = c.args.g.now in
    let k = c.loop-k.k in
    let F = λ (i k : ℕ). sum_below (table_data T) (get_or f.from i 0) (get_or h.to k 0) (length f.to) (λ j. (table_data T).compose (entry_of f i j) (entry_of h j k)) in
    let cols = ap (λ (l : List ℕ). length l) (c.parts-cols.ensures.value ∙ c.target.ensures) in
    c.in_ok-push.ensures.items
    ∙ entry-next f.from h.to F k c.loop-k.entries.items c.in_ok-entry.entry c.loop-k.invariant (c.in_ok-entry.ensures ∙ ap (λ n. (F (k / n) (k % n)).coefficients) cols)

pub returns : goal.returns
returns g c =
    let T = g.T.Table.table c.args.table.now in
    let f = c.args.f.now in
    let h = c.args.g.now in
    let F = λ (i k : ℕ). sum_below (table_data T) (get_or f.from i 0) (get_or h.to k 0) (length f.to) (λ j. (table_data T).compose (entry_of f i j) (entry_of h j k)) in
    let rows = ap (λ (l : List ℕ). length l * length c.parts-cols.result.now) (c.parts-rows.ensures.value ∙ c.source.ensures) in
    let cols = ap (λ (l : List ℕ). length f.from * length l) (c.parts-cols.ensures.value ∙ c.target.ensures) in
    let done : c.loop-k.k ≡ length c.parts-rows.result.now * length c.parts-cols.result.now = omega (arith, c.loop-k-test.false, c.loop-k.auto.k-end) in
    all-entries f.from h.to F c.loop-k.k c.loop-k.entries.items c.loop-k.invariant (done ∙ rows ∙ cols)
