-- Each table of residues has a reduced form: an elimination over functions, column by column.
use Rattle.std.proofs.Common.{◌≡◌, ℕ, zero, suc, ◌+◌, ◌-◌, ◌*◌, ◌%◌, ◌<◌, ◌≤◌, ◌⊎◌, cond, eqb, refl, sym, ap, ◌∙◌, arith, inl, inr, ⊎_elim, add-one}
use Rattle.std.proofs.lemmas.Bool.{cases_eq, cases_lt, eq-eqb, ne_eqb, cond-true, cond-false}
use Rattle.cap_matrix.specs.Reduced.{InSpan, IsReducedBy}
use Rattle.cap_reduce.specs.Cleared.{IsCleared, IsPivoted, IsSwapped, IsSameSpan}
use Rattle.cap_reduce.proofs.Spans.{span_within}
use Rattle.cap_reduce.proofs.Steps.{cleared_start, cleared_skip, cleared_swap, cleared_pivot, with_lead}
use Rattle.cap_reduce.proofs.Kept.{same_span_refl, same_span_trans, same_span_swap, same_span_pivot, reduced_at_end, span_at_end, swapped_residues, pivoted_residues}

-- each residue but 0 has an inverse
pub record HasInverses (p : ℕ) : Type 0 where
  pub inverse : (a : ℕ) → 0 < a → a < p → (b : ℕ) × ((a * b) % p ≡ 1)

-- what an elimination of the first j columns leaves
pub record Progress (p n m : ℕ) (t : ℕ → ℕ → ℕ) (j : ℕ) : Type 0 where
  pub table : ℕ → ℕ → ℕ
  pub lead : ℕ → ℕ
  pub count : ℕ
  pub span : IsSameSpan p n m t table
  pub cleared : IsCleared p n m table lead count j

-- a row from r on that is not 0 in column j, or none
find_pivot : (n r j : ℕ) (t : ℕ → ℕ → ℕ) → ((k : ℕ) × (r ≤ k) × (k < n) × (0 < t k j)) ⊎ ((i : ℕ) → r ≤ i → i < n → t i j ≡ 0)
find_pivot zero r j t = inr (λ i le lt. absurd (omega arith))
find_pivot (suc n) r j t =
    ⊎_elim (λ f. inl (f.0, f.1, omega (arith, f.2), f.3))
    (λ none. ⊎_elim (λ low. inr (λ i le lt. absurd (omega arith)))
    (λ high. ⊎_elim (λ z. inr (λ i le lt. ⊎_elim (λ less. none i le less) (λ ge. ap (λ x. t x j) (let e : i ≡ n = omega arith in e) ∙ z) (cases_lt i n)))
    (λ nz. inl (n, high, omega arith, omega arith))
    (cases_eq (t n j) 0))
    (cases_lt n r))
    (find_pivot n r j t)

abbrev swapped : (ℕ → ℕ → ℕ) → ℕ → ℕ → ℕ → ℕ → ℕ
swapped t a b i c = cond (eqb i a) (t b c) (cond (eqb i b) (t a c) (t i c))

swapped_is : (n m : ℕ) (t : ℕ → ℕ → ℕ) (a b : ℕ) → IsSwapped n m t (swapped t a b) a b
swapped_is n m t a b = record {
  first = λ c lt. cond-true (eqb a a) (t b c) (cond (eqb a b) (t a c) (t a c)) (eq-eqb a a refl);
  second = λ c lt. ⊎_elim
      (λ e. cond-true (eqb b a) (t b c) (cond (eqb b b) (t a c) (t b c)) (eq-eqb b a e) ∙ ap (λ x. t x c) e)
      (λ ne. cond-false (eqb b a) (t b c) (cond (eqb b b) (t a c) (t b c)) (ne_eqb b a ne) ∙ cond-true (eqb b b) (t a c) (t b c) (eq-eqb b b refl))
      (cases_eq b a);
  others = λ i c lt na nb below.
      cond-false (eqb i a) (t b c) (cond (eqb i b) (t a c) (t i c)) (ne_eqb i a na) ∙ cond-false (eqb i b) (t a c) (t i c) (ne_eqb i b nb);
}

abbrev pivoted : ℕ → (ℕ → ℕ → ℕ) → ℕ → ℕ → ℕ → ℕ → ℕ → ℕ
pivoted p t r j b i c = cond (eqb i r) ((t r c * b) % p) ((t i c + (p - t i j) * ((t r c * b) % p)) % p)

pivoted_is : (p n m : ℕ) (t : ℕ → ℕ → ℕ) (r j b : ℕ) → (t r j * b) % p ≡ 1 → IsPivoted p n m t (pivoted p t r j b) r j b
pivoted_is p n m t r j b unit =
    let own : (c : ℕ) → pivoted p t r j b r c ≡ (t r c * b) % p =
    λ c. cond-true (eqb r r) ((t r c * b) % p) ((t r c + (p - t r j) * ((t r c * b) % p)) % p) (eq-eqb r r refl) in
    record {
      unit = unit;
      row = λ c lt. own c;
      others = λ i c lt ne below. cond-false (eqb i r) ((t r c * b) % p) ((t i c + (p - t i j) * ((t r c * b) % p)) % p) (ne_eqb i r ne)
          ∙ ap (λ x. (t i c + (p - t i j) * x) % p) (sym (own c));
    }

next_column : (p n m : ℕ) (t : ℕ → ℕ → ℕ) (j : ℕ) → 2 ≤ p → HasInverses p → j < m → Progress p n m t j → Progress p n m t (suc j)
next_column p n m t j big inv jm s =
    let h = s.cleared in
    let r = s.count in
    ⊎_elim
    (λ f.
    let k = f.0 in
    let u = swapped s.table r k in
    let sw = swapped_is n m s.table r k in
    let rn : r < n = omega (arith, f.1, f.2) in
    let small = swapped_residues p n m s.table u r k rn f.2 sw h.residues in
    let e : u r j ≡ s.table k j = sw.first j jm in
    let b = inv.inverse (u r j) (omega (arith, f.3)) (small r j rn jm) in
    let w = pivoted p u r j b.0 in
    let pv = pivoted_is p n m u r j b.0 b.1 in
    let done = cleared_pivot p n m u w s.lead r j b.0 big rn jm (cleared_swap p n m s.table u s.lead r j k (omega arith) f.1 f.2 h sw) pv (pivoted_residues p n m u w r j b.0 big pv) in
    record {
      table = w;
      lead = with_lead s.lead r j;
      count = r + 1;
      span = same_span_trans p n m t s.table w s.span
          (same_span_trans p n m s.table u w (same_span_swap p n m s.table u r k rn f.2 sw) (same_span_pivot p n m u w r j b.0 rn jm (λ i lt. small i j lt jm) pv));
      cleared = rw (sym (add-one j)) done;
    })
    (λ none. record {
      table = s.table;
      lead = s.lead;
      count = r;
      span = s.span;
      cleared = rw (sym (add-one j)) (cleared_skip p n m s.table s.lead r j h none);
    })
    (find_pivot n r j s.table)

columns : (p n m : ℕ) (t : ℕ → ℕ → ℕ) → 2 ≤ p → HasInverses p → ((i c : ℕ) → i < n → c < m → t i c < p) → (j : ℕ) → j ≤ m → Progress p n m t j
columns p n m t big inv small zero le = record {
  table = t;
  lead = λ i. 0;
  count = 0;
  span = same_span_refl p n m t;
  cleared = cleared_start p n m t small;
}
columns p n m t big inv small (suc j) le = next_column p n m t j big inv (omega arith) (columns p n m t big inv small j (omega arith))

-- a reduced table with the span of t
pub record HasReduced (p n m : ℕ) (t : ℕ → ℕ → ℕ) : Type 0 where
  pub count : ℕ
  pub table : ℕ → ℕ → ℕ
  pub lead : ℕ → ℕ
  pub few : count ≤ n
  pub reduced : IsReducedBy p count m table lead
  pub there : (i : ℕ) → i < count → InSpan p n m t (table i)
  pub back : (i : ℕ) → i < n → InSpan p count m table (t i)

pub has_reduced : (p n m : ℕ) (t : ℕ → ℕ → ℕ) → 2 ≤ p → HasInverses p → ((i c : ℕ) → i < n → c < m → t i c < p) → HasReduced p n m t
has_reduced p n m t big inv small =
    let s = columns p n m t big inv small m (omega arith) in
    let few : s.count ≤ n = s.cleared.few in
    record {
      count = s.count;
      table = s.table;
      lead = s.lead;
      few = few;
      reduced = reduced_at_end p n m s.table s.lead s.count s.cleared;
      there = λ i lt. s.span.there i (omega arith);
      back = λ i lt. span_within p s.count m s.table n s.table (t i) (span_at_end p n m s.table s.lead s.count s.cleared) (s.span.back i lt);
    }
