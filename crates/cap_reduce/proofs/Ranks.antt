-- Ranks: reduced rows in the span of s rows are at most s, the rank of the transpose is the rank, and the null rows are as many as the rows less the rank.
use Rattle.std.proofs.Common.{◌≡◌, ℕ, ◌-◌, ◌*◌, ◌%◌, ◌<◌, ◌≤◌, refl, sym, ap, ◌∙◌, subst, arith, ⊎_elim}
use Rattle.std.proofs.lemmas.Nat.{mul-mod_first, mul-mod_second}
use Rattle.std.proofs.lemmas.Bool.{cases_lt, eq-eqb, cond-true}
use Rattle.std.proofs.Math.Nat.{mod-lt, mod-eq_of_lt, mul_comm, mul-zero, zero-mul, mul-one, zero-mod}
use Rattle.cap_field.proofs.Fermat.{tabled_range}
use Rattle.cap_matrix.specs.Grid.{Grid, entry, total}
use Rattle.cap_matrix.specs.Reduced.{InSpan, IsReducedBy}
use Rattle.cap_matrix.proofs.Sums.{total-same, total-zeros, total-mod, total-one, times_assoc}
use Rattle.cap_matrix.proofs.Entries.{small-at}
use Rattle.cap_reduce.specs.Laws.{RankAndNullRows}
use Rattle.cap_reduce.specs.NullTable.{null_value}
use Rattle.cap_reduce.proofs.Spans.{span_row, span_within}
use Rattle.cap_reduce.proofs.Null.{relation_in_span}
use Rattle.cap_reduce.proofs.Reduced.{factors}
use Rattle.cap_reduce.proofs.NullBasis.{matrix-ends, one_null_basis}
use Rattle.cap_reduce.proofs.NullRows.{turned_table, null_rows_by_transpose}
use Rattle.cap_reduce.proofs.NullAnswer.{few_leads}
use Rattle.cap_reduce.proofs.Eliminate.{HasInverses, has_reduced}
use Rattle.cap_reduce.proofs.Inverses.{inverses}
use Rattle.cap_reduce.proofs.Leads.{has_scan, null_value-free, scanned_is_free, scanned_is_table, backwards, null_table}
use Rattle.cap_reduce.proofs.NullColumns.{row_is_null}
use Rattle.cap_reduce.proofs.ReducedForms.{one_reduced_form, form-from-table}

-- fewer rows than reduced rows have a relation between them, and reduced rows have none
no_relation : (p r s m : ℕ) (t u : ℕ → ℕ → ℕ) (lead : ℕ → ℕ) → 2 ≤ p → HasInverses p → IsReducedBy p r m t lead → ((i : ℕ) → i < r → InSpan p s m u (t i)) → s < r → ⊥
no_relation p r s m t u lead big inv R rows less =
    let one : 1 ≤ p = omega arith in
    let x = factors p s m u r t rows in
    let a = λ (l i : ℕ). x.0 i l % p in
    let h = has_reduced p s r a big inv (λ l i lt below. mod-lt (x.0 i l) one) in
    let scan = has_scan p h.count r h.table h.lead h.reduced in
    let some : 0 < r - h.count = omega (arith, h.few) in
    let f = scan.free 0 in
    let fr : f < r = scan.is.inside 0 some in
    let out : h.count ≤ scan.place f = omega (arith, scan.is.nowhere 0 some) in
    let y = null_value p h.count h.table scan.place f in
    let here : y f ≡ 1 = null_value-free p h.count h.table scan.place f f out ∙ cond-true _ 1 0 (eq-eqb f f refl) in
    let zero_factor : (l : ℕ) → l < s → total r (λ i. y i * x.0 i l) % p ≡ 0 =
    λ l lt. total-mod p r (λ i. y i * x.0 i l) (λ i. a l i * y i) (λ i below. ap (λ z. z % p) (mul_comm (y i) (x.0 i l)) ∙ sym (mul-mod_first (x.0 i l) (y i) p))
    ∙ relation_in_span p h.count r h.table (a l) y (h.back l lt) (λ b lb. row_is_null p h.count r h.table h.lead scan.place scan.free big h.reduced scan.is f fr out b lb) in
    let j = lead f in
    let jm = R.inside f fr in
    let sum_is : total r (λ i. y i * t i j) ≡ 1 =
    total-one r f (λ i. y i * t i j) fr (λ i below ne. ap (λ z. y i * z) (R.clear i f below fr ne) ∙ mul-zero (y i))
    ∙ ap (λ z. y f * z) (R.one f fr) ∙ mul-one (y f) ∙ here in
    let sum_zero : total r (λ i. y i * t i j) % p ≡ 0 =
    total-mod p r (λ i. y i * t i j) (λ i. y i * (total s (λ l. x.0 i l * u l j) % p))
    (λ i below. sym (mul-mod_second (y i) (t i j) p) ∙ ap (λ z. (y i * z) % p) (sym (x.1 i below j jm)))
    ∙ sym (times_assoc p r s y x.0 u j)
    ∙ ap (λ z. z % p) (total-zeros s (λ l. (total r (λ i. y i * x.0 i l) % p) * u l j) (λ l lt. ap (λ z. z * u l j) (zero_factor l lt) ∙ zero-mul (u l j)))
    ∙ zero-mod p in
    let bad : 1 % p ≡ 0 = ap (λ z. z % p) (sym sum_is) ∙ sum_zero in
    let unit : 1 % p ≡ 1 = mod-eq_of_lt (omega arith) in
    omega arith

pub reduced_at_most : (p r s m : ℕ) (t u : ℕ → ℕ → ℕ) (lead : ℕ → ℕ) → 2 ≤ p → HasInverses p → IsReducedBy p r m t lead → ((i : ℕ) → i < r → InSpan p s m u (t i)) → r ≤ s
reduced_at_most p r s m t u lead big inv R rows = ⊎_elim (λ less. absurd (no_relation p r s m t u lead big inv R rows less)) (λ ge. ge) (cases_lt s r)

-- rows that are combinations of s rows have columns that are combinations of s columns
columns_inside : (p n w s : ℕ) (m d : ℕ → ℕ → ℕ) → ((i : ℕ) → i < n → InSpan p s w d (m i)) → (e : ℕ → ℕ → ℕ) × ((j : ℕ) → j < w → InSpan p s n e (λ i. m i j))
columns_inside p n w s m d rows =
    let x = factors p s w d n m rows in (
      λ k i. x.0 i k,
      λ j lt. (λ k. d k j, λ i below. ap (λ z. z % p) (total-same s (λ k. d k j * x.0 i k) (λ k. x.0 i k * d k j) (λ k inner. mul_comm (d k j) (x.0 i k))) ∙ x.1 i below j lt),
    )

-- the rank of the transpose is at most the rank
transpose_at_most : (p n w r s : ℕ) (m d u : ℕ → ℕ → ℕ) (lead : ℕ → ℕ) → 2 ≤ p → HasInverses p → IsReducedBy p r n u lead
    → ((i : ℕ) → i < n → InSpan p s w d (m i)) → ((a : ℕ) → a < r → InSpan p w n (λ j i. m i j) (u a)) → r ≤ s
transpose_at_most p n w r s m d u lead big inv R rows there =
    let e = columns_inside p n w s m d rows in
    reduced_at_most p r s n u e.0 lead big inv R (λ a la. span_within p s n e.0 w (λ j i. m i j) (u a) e.1 (there a la))

-- rows in reverse order have the same span
reversed_span : (p n w : ℕ) (t : ℕ → ℕ → ℕ) (v : ℕ → ℕ) → InSpan p n w t v → InSpan p n w (λ c. t (n - 1 - c)) v
reversed_span p n w t v s =
    span_within p n w (λ c. t (n - 1 - c)) n t v
    (λ i lt. subst (λ k. InSpan p n w (λ c. t (n - 1 - c)) (t k)) (let e : n - 1 - (n - 1 - i) ≡ i = omega arith in e)
    (span_row p n w (λ c. t (n - 1 - c)) (n - 1 - i) (omega arith)))
    s

pub rank_and_null_rows : RankAndNullRows
rank_and_null_rows p t m f k IM F K =
    let big = (tabled_range p t).0 in
    let inv = inverses p t in
    let M = matrix-ends IM in
    let n = m.row_count in
    let w = m.column_count in
    let e = entry m.entries in
    let h = has_reduced p w n (turned_table n m) big inv (λ j c lt below. small-at M (n - 1 - c) j (omega arith) lt) in
    let g = has_reduced p n w e big inv (λ i c lt below. small-at M i c lt below) in
    let scan = has_scan p h.count n h.table h.lead h.reduced in
    let basis = null_rows_by_transpose big M h.count (n - h.count) h.table
    (null_table p h.count n h.table h.lead scan.place scan.free scan.is) h.lead (backwards p h.count n h.table h.lead scan.place scan.free scan.is)
    h.reduced h.there h.back
    (scanned_is_free p h.count n h.table h.lead scan.place scan.free scan.is)
    (scanned_is_table p h.count n h.table h.lead scan.place scan.free scan.is h.reduced) in
    let null_count : k.row_count ≡ n - h.count = ap (λ (x : Grid). x.row_count) (one_null_basis p big m k _ IM K basis) in
    let form = form-from-table g.count g.table g.lead (omega arith) M g.reduced g.there g.back in
    let rank : f.row_count ≡ g.count = ap (λ (x : Grid). x.row_count) (one_reduced_form p big m f _ IM F form) in
    let low : h.count ≤ g.count =
    transpose_at_most p n w h.count g.count (λ c j. e (n - 1 - c) j) g.table h.table h.lead big inv h.reduced (λ c lt. g.back (n - 1 - c) (omega arith)) h.there in
    let high : g.count ≤ h.count =
    transpose_at_most p w n g.count h.count (turned_table n m) h.table g.table g.lead big inv g.reduced h.back (λ a la. reversed_span p n w e (g.table a) (g.there a la)) in
    let few = few_leads p h.count n h.table h.lead h.reduced in
    omega arith
