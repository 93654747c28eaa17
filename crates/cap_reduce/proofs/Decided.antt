-- Each row is in the span of a matrix, or a column shows that it is not.
use Rattle.std.proofs.Common.{◌≡◌, ◌⊎◌, ℕ, zero, suc, ◌*◌, ◌%◌, ◌<◌, ◌≤◌, get_or, sym, ap, ◌∙◌, subst, arith, inl, inr, ⊎_elim}
use Rattle.std.proofs.lemmas.Bool.{cases_eq, cases_lt}
use Rattle.cap_field.proofs.Fermat.{tabled_range}
use Rattle.cap_matrix.specs.Grid.{entry, total, row_by}
use Rattle.cap_matrix.proofs.Sums.{total-same}
use Rattle.cap_matrix.proofs.Rows.{length-row_by, row_by-at}
use Rattle.cap_matrix.proofs.Entries.{small-at}
use Rattle.cap_reduce.specs.Laws.{ObstructionRefutes, SolvedOrObstructed}
use Rattle.cap_reduce.specs.NullTable.{null_value}
use Rattle.cap_reduce.proofs.Spans.{span_within}
use Rattle.cap_reduce.proofs.Null.{relation_in_span}
use Rattle.cap_reduce.proofs.OneReduced.{span_from_list}
use Rattle.cap_reduce.proofs.NullBasis.{matrix-ends, span-out}
use Rattle.cap_reduce.proofs.Eliminate.{has_reduced}
use Rattle.cap_reduce.proofs.Inverses.{inverses}
use Rattle.cap_reduce.proofs.Leads.{has_scan, null_value-small}
use Rattle.cap_reduce.proofs.NullColumns.{row_is_null, span_from_nulls}

pub obstruction_refutes : ObstructionRefutes
obstruction_refutes m v y o s =
    o.some (relation_in_span m.prime m.row_count m.column_count (entry m.entries) (λ j. get_or v j 0) (λ j. get_or y j 0) (span_from_list m v s) o.null)

-- what is decided at each number holds at all below n, or fails at one
pub all_below : (n : ℕ) (P : ℕ → Type 0) → ((i : ℕ) → i < n → P i ⊎ (P i → ⊥)) → ((i : ℕ) → i < n → P i) ⊎ ((i : ℕ) × (i < n) × (P i → ⊥))
all_below zero P d = inl (λ i lt. absurd (omega arith))
all_below (suc n) P d = ⊎_elim
    (λ all. ⊎_elim
    (λ h. inl (λ i lt. ⊎_elim (λ less. all i less) (λ ge. subst P (let e : n ≡ i = omega arith in e) h) (cases_lt i n)))
    (λ no_h. inr (n, omega arith, no_h))
    (d n (omega arith)))
    (λ f. inr (f.0, omega (arith, f.1), f.2))
    (all_below n P (λ i lt. d i (omega arith)))

pub solved_or_obstructed : SolvedOrObstructed
solved_or_obstructed p t m v IM long small =
    let big = (tabled_range p t).0 in
    let M = matrix-ends IM in
    let n = m.row_count in
    let w = m.column_count in
    let e = entry m.entries in
    let h = has_reduced p n w e big (inverses p t) (λ i c lt below. small-at M i c lt below) in
    let s = has_scan p h.count w h.table h.lead h.reduced in
    let value = null_value p h.count h.table s.place in
    let P = λ (f : ℕ). h.count ≤ s.place f → total w (λ c. get_or v c 0 * value f c) % p ≡ 0 in
    ⊎_elim
    (λ nulls. inl (span-out M v long small
    (span_within p n w e h.count h.table (λ j. get_or v j 0) h.there
    (span_from_nulls p h.count w h.table h.lead s.place s.free big h.reduced s.is (λ j. get_or v j 0) nulls))))
    (λ g.
    let f = g.0 in
    let y = row_by w (value f) in
    let at = λ (c : ℕ) (lt : c < w). row_by-at w (value f) c lt in
    let out : h.count ≤ s.place f = ⊎_elim (λ less. absurd (g.2 (λ le. absurd (omega arith)))) (λ ge. ge) (cases_lt (s.place f) h.count) in
    inr (record {
      column = y;
      is = record {
        long = length-row_by w (value f);
        residues = λ j lt. subst (λ q. get_or y j 0 < q) (sym IM.prime) (subst (λ z. z < p) (sym (at j lt)) (null_value-small p h.count h.table s.place f j big));
        null = λ i lt.
            ap (λ q. total w (λ j. e i j * get_or y j 0) % q) IM.prime
            ∙ ap (λ z. z % p) (total-same w (λ j. e i j * get_or y j 0) (λ j. e i j * value f j) (λ j below. ap (λ z. e i j * z) (at j below)))
            ∙ relation_in_span p h.count w h.table (e i) (value f) (h.back i lt) (λ a la. row_is_null p h.count w h.table h.lead s.place s.free big h.reduced s.is f g.1 out a la);
        some = λ z. g.2 (λ le.
            ap (λ x. x % p) (total-same w (λ c. get_or v c 0 * value f c) (λ c. get_or v c 0 * get_or y c 0) (λ c lt. ap (λ x. get_or v c 0 * x) (sym (at c lt))))
            ∙ ap (λ q. total w (λ c. get_or v c 0 * get_or y c 0) % q) (sym IM.prime) ∙ z);
      };
    }))
    (all_below w P (λ f lt. ⊎_elim
    (λ less. inl (λ le. absurd (omega arith)))
    (λ ge. ⊎_elim (λ z. inl (λ le. z)) (λ nz. inr (λ k. nz (k ge))) (cases_eq (total w (λ c. get_or v c 0 * value f c) % p) 0))
    (cases_lt (s.place f) h.count)))
