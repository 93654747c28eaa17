-- The reduced form of a matrix: from a reduced table, that there is one, and only one; and the null-row basis.
use Rattle.std.proofs.Common.{◌≡◌, ℕ, zero, suc, ◌+◌, ◌-◌, ◌*◌, ◌%◌, ◌<◌, ◌≤◌, ltb, List, length, get_or, sym, ap, ◌∙◌, subst, arith, ⊎_elim}
use Rattle.std.proofs.lemmas.Bool.{cases_lt, lt-ltb, le-ltb, cond-true, cond-false}
use Rattle.std.proofs.Math.Nat.{mod-lt, zero-mod}
use Rattle.cap_field.proofs.Fermat.{tabled_range}
use Rattle.cap_matrix.specs.Grid.{Grid, IsMatrixOf, entry, total, matrix_by}
use Rattle.cap_matrix.specs.Reduced.{InSpan, IsInSpan, IsReducedBy, IsReducedForm}
use Rattle.cap_matrix.proofs.Rows.{length-row_by, row_by-at}
use Rattle.cap_matrix.proofs.Entries.{matrix_by-at, matrix_by-is, small-at, delta, delta-small}
use Rattle.cap_reduce.specs.Laws.{ReducedFormExists, OneReducedForm, NullBasisExists}
use Rattle.cap_reduce.proofs.Spans.{span_same, span_within}
use Rattle.cap_reduce.proofs.Null.{beside_identity, null_from_span, null_reduced, null_spanned}
use Rattle.cap_reduce.proofs.OneReduced.{one_reduced_matrix}
use Rattle.cap_reduce.proofs.Reduced.{reduced_same, span_of_same}
use Rattle.cap_reduce.proofs.NullBasis.{matrix-ends, span-in, span-out, basis-from-table}
use Rattle.cap_reduce.proofs.Eliminate.{has_reduced}
use Rattle.cap_reduce.proofs.Inverses.{inverses}

-- a member of a span is a row of residues
pub span_row_long : {p k a : ℕ} {n : Grid} → IsMatrixOf p k a n → (v : List ℕ) → IsInSpan n v → length v ≡ a
span_row_long {p} {k} {a} {n} N v s =
    ap length s.2 ∙ length-row_by n.column_count (λ j. total n.row_count (λ i. get_or s.0 i 0 * entry n.entries i j) % n.prime) ∙ N.to

pub span_row_small : {p k a : ℕ} {n : Grid} → 1 ≤ p → IsMatrixOf p k a n → (v : List ℕ) → IsInSpan n v → (j : ℕ) → j < a → get_or v j 0 < p
span_row_small {p} {k} {a} {n} pos N v s j lt =
    let inner : j < n.column_count = omega (arith, N.to) in
    let value = total n.row_count (λ i. get_or s.0 i 0 * entry n.entries i j) in
    let e : get_or v j 0 ≡ value % p = ap (λ r. get_or r j 0) s.2 ∙ row_by-at n.column_count (λ j. total n.row_count (λ i. get_or s.0 i 0 * entry n.entries i j) % n.prime) j inner ∙ ap (λ q. value % q) N.is.prime in
    subst (λ y. y < p) (sym e) (mod-lt value pos)

-- a matrix whose rows are in the span of another has a smaller span
pub span_inside : {p k n a : ℕ} {x y : Grid} → 1 ≤ p → IsMatrixOf p k a x → IsMatrixOf p n a y
    → ((i : ℕ) → i < k → InSpan p n a (entry y.entries) (entry x.entries i)) → (v : List ℕ) → IsInSpan x v → IsInSpan y v
span_inside {p} {k} {n} {a} {x} {y} pos X Y rows v s =
    span-out Y v (span_row_long X v s) (span_row_small pos X v s)
    (span_within p n a (entry y.entries) k (entry x.entries) (λ j. get_or v j 0) rows (span-in X v s))

-- a reduced table with the span of a matrix is its reduced form
pub form-from-table : {p n w : ℕ} {m : Grid} (r : ℕ) (u : ℕ → ℕ → ℕ) (lead : ℕ → ℕ) → 1 ≤ p → IsMatrixOf p n w m → IsReducedBy p r w u lead
    → ((i : ℕ) → i < r → InSpan p n w (entry m.entries) (u i))
    → ((i : ℕ) → i < n → InSpan p r w u (entry m.entries i))
    → IsReducedForm m (matrix_by p r w u)
form-from-table {p} {n} {w} {m} r u lead pos M h there back =
    let N = matrix_by-is p r w u h.residues in
    let at = matrix_by-at p r w u in
    let g = matrix_by p r w u in
    record {
      prime = sym M.is.prime;
      width = sym M.to;
      reduced = record { shaped = N.is.shaped; lead = lead; by_leads = reduced_same p r w u (entry g.entries) lead h at };
      spans = λ v. (
        span_inside pos N M (λ i lt. span_same p n w (entry m.entries) (u i) (entry g.entries i) (there i lt) (λ j below. ap (λ y. y % p) (sym (at i j lt below)))) v,
        span_inside pos M N (λ i lt. span_of_same p r w u (entry g.entries) (entry m.entries i) at (back i lt)) v,
      );
    }

pub reduced_form_exists : ReducedFormExists
reduced_form_exists p t m IM =
    let big = (tabled_range p t).0 in
    let M = matrix-ends IM in
    let h = has_reduced p m.row_count m.column_count (entry m.entries) big (inverses p t) (λ i c lt below. small-at M i c lt below) in
    record { form = matrix_by p h.count m.column_count h.table; is = form-from-table h.count h.table h.lead (omega arith) M h.reduced h.there h.back }

pub one_reduced_form : OneReducedForm
one_reduced_form p big m r s IM A B =
    one_reduced_matrix r s (omega (arith, A.prime, IM.prime)) (A.prime ∙ sym B.prime) (A.width ∙ sym B.width) A.reduced B.reduced
    (λ v. (λ x. (B.spans v).1 ((A.spans v).0 x), λ x. (A.spans v).1 ((B.spans v).0 x)))

-- rising numbers are below a bound up to some place, and not from there on
split_rising : (lead : ℕ → ℕ) (w r : ℕ) → ((i k : ℕ) → i < k → k < r → lead i < lead k)
    → (s : ℕ) × (s ≤ r) × ((i : ℕ) → i < s → lead i < w) × ((i : ℕ) → s ≤ i → i < r → w ≤ lead i)
split_rising lead w zero rising = (0, omega arith, λ i lt. absurd (omega arith), λ i le lt. absurd (omega arith))
split_rising lead w (suc r) rising =
    let f = split_rising lead w r (λ i k less below. rising i k less (omega arith)) in
    ⊎_elim
    (λ less. (
      suc r,
      omega arith,
      λ i lt. ⊎_elim (λ under. omega (arith, rising i r under (omega arith))) (λ ge. omega (arith, ap lead (let s : i ≡ r = omega arith in s))) (cases_lt i r),
      λ i le lt. absurd (omega arith),
    ))
    (λ ge. (
      f.0,
      omega (arith, f.1),
      f.2,
      λ i le lt. ⊎_elim (λ under. f.3 i le under) (λ top. omega (arith, ap lead (let s : r ≡ i = omega arith in s))) (cases_lt i r),
    ))
    (cases_lt (lead r) w)

beside-small : (p n w : ℕ) (t : ℕ → ℕ → ℕ) → 2 ≤ p → ((i c : ℕ) → i < n → c < w → t i c < p) → (i c : ℕ) → i < n → c < w + n → beside_identity w t i c < p
beside-small p n w t big small i c lt below =
    ⊎_elim
    (λ less. subst (λ y. y < p) (sym (cond-true (ltb c w) (t i c) (delta c (w + i)) (lt-ltb c w less))) (small i c lt less))
    (λ ge. subst (λ y. y < p) (sym (cond-false (ltb c w) (t i c) (delta c (w + i)) (le-ltb c w ge))) (delta-small p c (w + i) big))
    (cases_lt c w)

pub null_basis_exists : NullBasisExists
null_basis_exists p t m IM =
    let big = (tabled_range p t).0 in
    let M = matrix-ends IM in
    let n = m.row_count in
    let w = m.column_count in
    let e = entry m.entries in
    let h = has_reduced p n (w + n) (beside_identity w e) big (inverses p t) (beside-small p n w e big (λ i c lt below. small-at M i c lt below)) in
    let s = split_rising h.lead w h.count h.reduced.rising in
    record {
      basis = matrix_by p (h.count - s.0) n (λ i c. h.table (s.0 + i) (w + c));
      is = basis-from-table (h.count - s.0) (λ i c. h.table (s.0 + i) (w + c)) (λ i. h.lead (s.0 + i) - w) (omega arith) M
          (null_reduced p h.count s.0 n w h.table h.lead h.reduced s.1 s.3)
          (λ i lt. null_from_span p n w e (h.table (s.0 + i)) (h.there (s.0 + i) (omega arith))
          (λ j below. ap (λ y. y % p) (h.reduced.before (s.0 + i) j (omega arith) (omega (arith, s.3 (s.0 + i) (omega arith) (omega arith)))) ∙ zero-mod p))
          (λ x z. null_spanned p h.count s.0 n w e h.table h.lead x h.reduced s.1 s.2 h.back z);
    }
