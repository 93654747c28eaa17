use Rattle.std.proofs.Common.{◌≡◌, ℕ, ◌+◌, ◌*◌, ◌%◌, List, get_or, length, replicate, ap, ◌∙◌, arith}
use Rattle.std.proofs.lemmas.List.{with_items_is, length-replicate, get_or-replicate}
use Rattle.cap_matrix.proofs.Rows.{row_by_is}
use Rattle.cap_addclosure.proofs.linear.row_multiple.Goals as goal

pub returns : goal.returns
returns c =
    let x = c.args.x.now in
    let n = c.args.n in
    let p = c.args.field in
    let out = c.add_multiple.new.sum in
    let old = c.deref_mut.result.now in
    let same = c.deref_mut.ensures.value ∙ c.in_ok-row.ensures.items_if_clones_equal (λ y e. e) in
    let zeros : length (replicate (length x) 0) ≡ length x = length-replicate {A = ℕ} (length x) 0 in
    let long : length old ≡ length x = ap (λ (l : List ℕ). length l) same ∙ zeros in
    c.new.ensures ∙ with_items_is c.in_ok-row.row out (omega (arith, c.add_multiple.ensures.long, c.deref_mut.ensures.len))
    ∙ row_by_is (length x) (λ k. n * get_or x k 0 % p) out (c.add_multiple.ensures.long ∙ long)
    (λ k lt. c.add_multiple.ensures.added k (omega (arith, lt, long))
    ∙ ap (λ (l : List ℕ). (get_or l k 0 + n * get_or x k 0) % c.prime-p.result) same
    ∙ ap (λ m. (m + n * get_or x k 0) % c.prime-p.result) (get_or-replicate (length x) k 0 0 (omega (arith, lt, zeros)))
    ∙ ap (λ m. m % c.prime-p.result) (let e : 0 + n * get_or x k 0 ≡ n * get_or x k 0 = omega arith in e)
    ∙ ap (λ q. n * get_or x k 0 % q) c.prime-p.ensures.value)
