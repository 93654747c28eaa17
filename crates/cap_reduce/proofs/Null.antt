-- Relations between columns, and the rows x with x·M = 0 by the reduced form of M beside the identity.
use Rattle.std.proofs.Common.{◌≡◌, ℕ, zero, suc, ◌+◌, ◌-◌, ◌*◌, ◌%◌, ◌<◌, ◌≤◌, cond, eqb, ltb, refl, sym, ap, ◌∙◌, arith, ⊎_elim}
use Rattle.std.proofs.lemmas.Nat.{mul-mod_first, mul-mod_second}
use Rattle.std.proofs.lemmas.Bool.{cases_eq, cases_lt, eq-eqb, ne_eqb, lt-ltb, le-ltb, cond-true, cond-false}
use Rattle.std.proofs.Math.Nat.{mul-zero, zero-mul, mul-one, mul_assoc, zero-mod}
use Rattle.cap_matrix.specs.Grid.{total}
use Rattle.cap_matrix.proofs.Sums.{total-same, total-zeros, total-mod, total-one, total-swap, total-scale, total-scale_right}
use Rattle.cap_matrix.specs.Reduced.{InSpan, IsReducedBy}
use Rattle.cap_reduce.specs.Cleared.{IsSameSpan}
use Rattle.cap_reduce.proofs.Spans.{span_within}
use Rattle.cap_reduce.proofs.Unique.{known_at_leads}

-- what the columns of a table satisfy, each member of its span satisfies
pub relation_in_span : (p n m : ℕ) (t : ℕ → ℕ → ℕ) (v y : ℕ → ℕ) → InSpan p n m t v
    → ((i : ℕ) → i < n → total m (λ c. t i c * y c) % p ≡ 0) → total m (λ c. v c * y c) % p ≡ 0
relation_in_span p n m t v y s h =
    total-mod p m (λ c. v c * y c) (λ c. total n (λ i. s.0 i * t i c) * y c)
    (λ c lt. sym (mul-mod_first (v c) (y c) p) ∙ ap (λ w. (w * y c) % p) (sym (s.1 c lt)) ∙ mul-mod_first (total n (λ i. s.0 i * t i c)) (y c) p)
    ∙ ap (λ w. w % p)
    (total-same m (λ c. total n (λ i. s.0 i * t i c) * y c) (λ c. total n (λ i. s.0 i * t i c * y c))
    (λ c lt. sym (total-scale_right n (y c) (λ i. s.0 i * t i c)))
    ∙ total-swap m n (λ c i. s.0 i * t i c * y c)
    ∙ total-same n (λ i. total m (λ c. s.0 i * t i c * y c)) (λ i. s.0 i * total m (λ c. t i c * y c))
    (λ i lt. total-same m (λ c. s.0 i * t i c * y c) (λ c. s.0 i * (t i c * y c)) (λ c below. mul_assoc (s.0 i) (t i c) (y c))
    ∙ total-scale m (s.0 i) (λ c. t i c * y c)))
    ∙ total-mod p n (λ i. s.0 i * total m (λ c. t i c * y c)) (λ i. 0)
    (λ i lt. sym (mul-mod_second (s.0 i) (total m (λ c. t i c * y c)) p) ∙ ap (λ w. (s.0 i * w) % p) (h i lt) ∙ ap (λ w. w % p) (mul-zero (s.0 i)))
    ∙ ap (λ w. w % p) (total-zeros n (λ i. 0) (λ i lt. refl)) ∙ zero-mod p

-- tables of one span have the same relations between their columns
pub same_relations : (p n m : ℕ) (t u : ℕ → ℕ → ℕ) (y : ℕ → ℕ) → IsSameSpan p n m t u
    → ((i : ℕ) → i < n → total m (λ c. t i c * y c) % p ≡ 0) → (i : ℕ) → i < n → total m (λ c. u i c * y c) % p ≡ 0
same_relations p n m t u y s h i lt = relation_in_span p n m t (u i) y (s.there i lt) h

-- M beside the identity, where M has m columns
abbrev pub beside_identity : ℕ → (ℕ → ℕ → ℕ) → ℕ → ℕ → ℕ
beside_identity m t i c = cond (ltb c m) (t i c) (cond (eqb c (m + i)) 1 0)

beside-left : (m : ℕ) (t : ℕ → ℕ → ℕ) (i c : ℕ) → c < m → beside_identity m t i c ≡ t i c
beside-left m t i c lt = cond-true (ltb c m) (t i c) (cond (eqb c (m + i)) 1 0) (lt-ltb c m lt)

beside-right : (m : ℕ) (t : ℕ → ℕ → ℕ) (i c : ℕ) → beside_identity m t i (m + c) ≡ cond (eqb (m + c) (m + i)) 1 0
beside-right m t i c = cond-false (ltb (m + c) m) (t i (m + c)) (cond (eqb (m + c) (m + i)) 1 0) (le-ltb (m + c) m (omega arith))

-- the right part of a combination is its factors
right_is_factors : (n m : ℕ) (t : ℕ → ℕ → ℕ) (x : ℕ → ℕ) (c : ℕ) → c < n → total n (λ i. x i * beside_identity m t i (m + c)) ≡ x c
right_is_factors n m t x c lt =
    total-one n c (λ i. x i * beside_identity m t i (m + c)) lt
    (λ i below ne. ap (λ w. x i * w) (beside-right m t i c ∙ cond-false (eqb (m + c) (m + i)) 1 0 (ne_eqb (m + c) (m + i) (λ e. ne (let s : i ≡ c = omega arith in s)))) ∙ mul-zero (x i))
    ∙ ap (λ w. x c * w) (beside-right m t c c ∙ cond-true (eqb (m + c) (m + c)) 1 0 (eq-eqb (m + c) (m + c) refl))
    ∙ mul-one (x c)

left_is_product : (n m : ℕ) (t : ℕ → ℕ → ℕ) (x : ℕ → ℕ) (j : ℕ) → j < m → total n (λ i. x i * beside_identity m t i j) ≡ total n (λ i. x i * t i j)
left_is_product n m t x j lt =
    total-same n (λ i. x i * beside_identity m t i j) (λ i. x i * t i j) (λ i below. ap (λ w. x i * w) (beside-left m t i j lt))

-- x with x·M = 0
abbrev pub IsNull : ℕ → ℕ → ℕ → (ℕ → ℕ → ℕ) → (ℕ → ℕ) → Type 0
IsNull p n m t x = (j : ℕ) → j < m → total n (λ i. x i * t i j) % p ≡ 0

-- a member of the span of M beside the identity whose left part is 0 has such an x on the right
pub null_from_span : (p n m : ℕ) (t : ℕ → ℕ → ℕ) (v : ℕ → ℕ) → InSpan p n (m + n) (beside_identity m t) v → ((j : ℕ) → j < m → v j % p ≡ 0)
    → IsNull p n m t (λ i. v (m + i))
null_from_span p n m t v s left j lt =
    total-mod p n (λ i. v (m + i) * t i j) (λ i. s.0 i * t i j)
    (λ i below. sym (mul-mod_first (v (m + i)) (t i j) p)
    ∙ ap (λ w. (w * t i j) % p) (sym (s.1 (m + i) (omega arith)) ∙ ap (λ w. w % p) (right_is_factors n m t s.0 i below))
    ∙ mul-mod_first (s.0 i) (t i j) p)
    ∙ ap (λ w. w % p) (sym (left_is_product n m t s.0 j lt))
    ∙ s.1 j (omega arith) ∙ left j lt

-- and each such x is the right part of a member whose left part is 0
pub span_from_null : (p n m : ℕ) (t : ℕ → ℕ → ℕ) (x v : ℕ → ℕ) → IsNull p n m t x → ((j : ℕ) → j < m → v j % p ≡ 0) → ((i : ℕ) → i < n → v (m + i) % p ≡ x i % p)
    → InSpan p n (m + n) (beside_identity m t) v
span_from_null p n m t x v h left right = (
  x,
  λ c lt. ⊎_elim
      (λ less. ap (λ w. w % p) (left_is_product n m t x c less) ∙ h c less ∙ sym (left c less))
      (λ ge. let e : m + (c - m) ≡ c = omega arith in let below : c - m < n = omega arith in
      ap (λ w. total n (λ i. x i * beside_identity m t i w) % p) (sym e)
      ∙ ap (λ w. w % p) (right_is_factors n m t x (c - m) below)
      ∙ sym (right (c - m) below) ∙ ap (λ w. v w % p) e)
      (cases_lt c m),
)

-- the rows of the reduced form from r0 on, whose leads are right of M, are reduced on the right
pub null_reduced : (p r r0 n m : ℕ) (u : ℕ → ℕ → ℕ) (lead : ℕ → ℕ) → IsReducedBy p r (m + n) u lead → r0 ≤ r
    → ((k : ℕ) → r0 ≤ k → k < r → m ≤ lead k) → IsReducedBy p (r - r0) n (λ i c. u (r0 + i) (m + c)) (λ i. lead (r0 + i) - m)
null_reduced p r r0 n m u lead h le above = record {
  residues = λ i j lt below. h.residues (r0 + i) (m + j) (omega arith) (omega arith);
  inside = λ i lt. let a = above (r0 + i) (omega arith) (omega arith) in let b = h.inside (r0 + i) (omega arith) in omega arith;
  rising = λ i k lt below. let a = above (r0 + i) (omega arith) (omega arith) in let b = h.rising (r0 + i) (r0 + k) (omega arith) (omega arith) in omega arith;
  before = λ i j lt below. h.before (r0 + i) (m + j) (omega arith) (omega arith);
  one = λ i lt. let a = above (r0 + i) (omega arith) (omega arith) in
      ap (u (r0 + i)) (let e : m + (lead (r0 + i) - m) ≡ lead (r0 + i) = omega arith in e) ∙ h.one (r0 + i) (omega arith);
  clear = λ i k lt below ne. let a = above (r0 + k) (omega arith) (omega arith) in
      ap (u (r0 + i)) (let e : m + (lead (r0 + k) - m) ≡ lead (r0 + k) = omega arith in e)
      ∙ h.clear (r0 + i) (r0 + k) (omega arith) (omega arith) (λ e. ne (let s : i ≡ k = omega arith in s));
}

-- a sum whose first terms are 0 is the sum of the others
pub total_rest : (r r0 : ℕ) (f : ℕ → ℕ) → r0 ≤ r → ((k : ℕ) → k < r0 → f k ≡ 0) → total r f ≡ total (r - r0) (λ i. f (r0 + i))
total_rest zero r0 f le h = ap (λ w. total w (λ i. f (r0 + i))) (let e : 0 ≡ 0 - r0 = omega arith in e)
total_rest (suc r) r0 f le h = ⊎_elim
    (λ all. total-zeros (suc r) f (λ k lt. h k (omega arith)) ∙ ap (λ w. total w (λ i. f (r0 + i))) (let e : 0 ≡ suc r - r0 = omega arith in e))
    (λ more. let small : r0 ≤ r = omega arith in
    ap (λ w. w + f r) (total_rest r r0 f small h)
    ∙ ap (λ w. total (r - r0) (λ i. f (r0 + i)) + f w) (let e : r ≡ r0 + (r - r0) = omega arith in e)
    ∙ ap (λ w. total w (λ i. f (r0 + i))) (let e : suc (r - r0) ≡ suc r - r0 = omega arith in e))
    (cases_eq (suc r) r0)

-- they span all x with x·M = 0
pub null_spanned : (p r r0 n m : ℕ) (t u : ℕ → ℕ → ℕ) (lead x : ℕ → ℕ) → IsReducedBy p r (m + n) u lead → r0 ≤ r
    → ((k : ℕ) → k < r0 → lead k < m)
    → ((i : ℕ) → i < n → InSpan p r (m + n) u (beside_identity m t i)) → IsNull p n m t x
    → InSpan p (r - r0) n (λ i c. u (r0 + i) (m + c)) x
null_spanned p r r0 n m t u lead x h le low rows null =
    let v = λ (c : ℕ). cond (ltb c m) 0 (x (c - m)) in
    let v-left = λ (c : ℕ) (lt : c < m). cond-true (ltb c m) 0 (x (c - m)) (lt-ltb c m lt) in
    let v-right : (i : ℕ) → v (m + i) ≡ x i = λ i. cond-false (ltb (m + i) m) 0 (x (m + i - m)) (le-ltb (m + i) m (omega arith)) ∙ ap x (let e : m + i - m ≡ i = omega arith in e) in
    let member = span_within p r (m + n) u n (beside_identity m t) v rows
    (span_from_null p n m t x v null (λ j lt. ap (λ w. w % p) (v-left j lt) ∙ zero-mod p) (λ i lt. ap (λ w. w % p) (v-right i))) in (
      λ i. v (lead (r0 + i)),
      λ c lt.
          ap (λ w. w % p) (sym (total_rest r r0 (λ k. v (lead k) * u k (m + c)) le
          (λ k below. ap (λ w. w * u k (m + c)) (v-left (lead k) (low k below)) ∙ zero-mul (u k (m + c)))))
          ∙ known_at_leads p r (m + n) u lead v h member (m + c) (omega arith)
          ∙ ap (λ w. w % p) (v-right c),
    )
