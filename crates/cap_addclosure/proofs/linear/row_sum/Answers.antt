use Rattle.std.proofs.Common.{◌≡◌, ℕ, ◌+◌, ◌*◌, ◌%◌, List, get_or, length, ap, ◌∙◌, arith}
use Rattle.std.proofs.lemmas.List.{with_items_is}
use Rattle.cap_matrix.proofs.Rows.{row_by_is}
use Rattle.cap_addclosure.proofs.linear.row_sum.Goals as goal

pub returns : goal.returns
returns c =
    let x = c.args.x.now in
    let y = c.args.y.now in
    let p = c.args.field in
    let out = c.add_multiple.new.sum in
    let old = c.deref_mut.result.now in
    let same = c.deref_mut.ensures.value ∙ c.in_ok-row.ensures.items in
    let long : length old ≡ length x = ap (λ (l : List ℕ). length l) same in
    c.new.ensures ∙ with_items_is c.in_ok-row.row out (omega (arith, c.add_multiple.ensures.long, c.deref_mut.ensures.len))
    ∙ row_by_is (length x) (λ k. (get_or x k 0 + get_or y k 0) % p) out (c.add_multiple.ensures.long ∙ long)
    (λ k lt. c.add_multiple.ensures.added k (omega (arith, lt, long))
    ∙ ap (λ (l : List ℕ). (get_or l k 0 + 1 * get_or y k 0) % c.prime-p.result) same
    ∙ ap (λ n. (get_or x k 0 + n) % c.prime-p.result) (let e : 1 * get_or y k 0 ≡ get_or y k 0 = omega arith in e)
    ∙ ap (λ q. (get_or x k 0 + get_or y k 0) % q) c.prime-p.ensures.value)
