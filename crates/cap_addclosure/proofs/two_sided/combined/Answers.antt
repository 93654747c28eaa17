use Rattle.std.proofs.Common.{◌≡◌, ℕ, ◌+◌, ◌*◌, ◌%◌, ◌<◌, List, get_or, length, replicate, sym, ap, ◌∙◌, subst, arith}
use Rattle.std.proofs.lemmas.List.{with_items_is, length-replicate, get_or-replicate}
use Rattle.cap_field.proofs.Fermat.{tabled_range}
use Rattle.cap_matrix.proofs.Rows.{row_by_is}
use Rattle.cap_laws.specs.Table.{total_below, width_of, hom_of}
use Rattle.cap_addclosure.proofs.two_sided.combined.Goals as goal

pub add_product-requires-clause-whole : goal.add_product-requires-clause-whole
add_product-requires-clause-whole g c =
    let T = g.T.Table.table c.args.table.now in
    let V = g.met.T.Table.valid c.args.table.now in
    let n = c.width.result in
    let same : c.deref_mut.result.now ≡ replicate n 0 = c.deref_mut.ensures.value ∙ c.in_ok-sum.ensures in
    let zeros : length (replicate n 0) ≡ n = length-replicate {A = ℕ} n 0 in
    let long : length c.deref_mut.result.now ≡ n = ap (λ (l : List ℕ). length l) same ∙ zeros in
    record {
      long = long ∙ c.width.ensures.value;
      residues = λ k lt. subst (λ (l : List ℕ). get_or l k 0 < T.prime) (sym same)
          (subst (λ q. q < T.prime) (sym (get_or-replicate n k 0 0 (omega (arith, lt, long, zeros)))) (let big = (tabled_range T.prime V.linear.prime_tabled).0 in omega (arith, big)));
    }

pub returns : goal.returns
returns g c =
    let T = g.T.Table.table c.args.table.now in
    let x = c.args.x in
    let y = c.args.y in
    let z = c.args.z in
    let u = c.args.u.now in
    let v = c.args.v.now in
    let n = c.width.result in
    let out = c.add_product.new.sum in
    let old = c.deref_mut.result.now in
    let same : old ≡ replicate n 0 = c.deref_mut.ensures.value ∙ c.in_ok-sum.ensures in
    let zeros : length (replicate n 0) ≡ n = length-replicate {A = ℕ} n 0 in
    let long : length old ≡ n = ap (λ (l : List ℕ). length l) same ∙ zeros in
    let sum = λ (k : ℕ). total_below (width_of T x y) (λ i. total_below (width_of T y z) (λ j. get_or u i 0 * get_or v j 0 * get_or (T.product (get_or (hom_of T x y) i 0) (get_or (hom_of T y z) j 0)) k 0)) in
    with_items_is c.in_ok-sum.sum out (omega (arith, c.add_product.ensures.long, c.deref_mut.ensures.len))
    ∙ row_by_is (width_of T x z) (λ k. sum k % T.prime) out (c.add_product.ensures.long ∙ long ∙ c.width.ensures.value)
    (λ k lt. c.add_product.ensures.added k (omega (arith, lt, long, c.width.ensures.value))
    ∙ ap (λ (l : List ℕ). (get_or l k 0 + sum k) % T.prime) same
    ∙ ap (λ m. (m + sum k) % T.prime) (get_or-replicate n k 0 0 (omega (arith, lt, zeros, c.width.ensures.value)))
    ∙ ap (λ m. m % T.prime) (let e : 0 + sum k ≡ sum k = omega arith in e))
