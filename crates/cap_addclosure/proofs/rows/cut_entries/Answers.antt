use Rattle.std.proofs.Common.{◌≡◌, ℕ, ◌+◌, ◌-◌, ◌*◌, ◌<◌, List, [], ◌∷◌, ◌++◌, length, get_or, take, drop, sym, ap, ◌∙◌, arith}
use Rattle.cap_add_laws.specs.Closure.{sum_list, widths_of, cut_by}
use Rattle.cap_add_laws.proofs.Structure.{widths-many, width-at}
use Rattle.cap_addclosure.proofs.Widths.{sum-next}
use Rattle.cap_addclosure.proofs.Cuts.{cut-next, cut-all, sum-within}
use Rattle.cap_addclosure.proofs.rows.cut_entries.Goals as goal

pub slice_bounds-from_slice-end : goal.slice_bounds-from_slice-end
slice_bounds-from_slice-end g c =
    let T = g.T.Table.table c.args.table.now in
    let a = c.args.a.now in
    let b = c.args.b.now in
    let k = c.loop-k.k in
    let ws = widths_of T a b in
    let lt : k < length a * length b = c.loop-k-test.true in
    let within = sum-within ws k (omega (arith, lt, widths-many T a b)) in
    let w = c.width.ensures.value ∙ sym (width-at T a b k lt) in
    omega (arith, within, w, c.loop-k.invariant.start, c.requires.long)

pub loop-k-preserved : goal.loop-k-preserved
loop-k-preserved g c =
    let T = g.T.Table.table c.args.table.now in
    let a = c.args.a.now in
    let b = c.args.b.now in
    let k = c.loop-k.k in
    let row = c.args.row.now in
    let start = c.loop-k.start in
    let ws = widths_of T a b in
    let lt : k < length a * length b = c.loop-k-test.true in
    let below : k < length ws = omega (arith, lt, widths-many T a b) in
    let w = c.width.ensures.value ∙ sym (width-at T a b k lt) in
    let n : start + c.width.result - start ≡ c.width.result = omega arith in
    record {
      start = ap (λ m. m + c.width.result) c.loop-k.invariant.start ∙ ap (λ m. sum_list (take k ws) + m) w ∙ sym (sum-next ws k below);
      small = omega (arith, c.loop-k.invariant.small, c.width.ensures.few);
      entries = c.in_ok-push.ensures.items
          ∙ ap (λ (z : List (List ℕ)). z ++ c.new.result ∷ []) c.loop-k.invariant.entries
          ∙ ap (λ (z : List ℕ). cut_by (take k ws) row ++ z ∷ []) (c.new.ensures ∙ c.in_ok-entry.ensures.items ∙ ap (λ m. take m (drop start row)) n ∙ ap (λ m. take m (drop start row)) w ∙ ap (λ m. take (get_or ws k 0) (drop m row)) c.loop-k.invariant.start)
          ∙ sym (cut-next ws k row below);
    }

pub returns : goal.returns
returns g c =
    let T = g.T.Table.table c.args.table.now in
    let ws = widths_of T c.args.a.now c.args.b.now in
    let done : c.loop-k.k ≡ length ws = omega (arith, c.loop-k-test.false, c.loop-k.auto.k-end, widths-many T c.args.a.now c.args.b.now) in
    c.loop-k.invariant.entries ∙ ap (λ n. cut_by (take n ws) c.args.row.now) done ∙ cut-all ws c.args.row.now
