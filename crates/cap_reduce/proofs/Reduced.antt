-- Reduced tables: a table with the same entries, the factors of rows in a span, and the product that they make.
use Rattle.std.proofs.Common.{◌≡◌, ℕ, ◌*◌, ◌%◌, ◌<◌, ◌≤◌, sym, ap, ◌∙◌, subst, arith, inl, inr, ⊎_elim}
use Rattle.std.proofs.lemmas.Bool.{cases_lt}
use Rattle.std.proofs.Math.Nat.{mod-eq_of_lt}
use Rattle.cap_matrix.specs.Grid.{Grid, IsMatrixOf, entry, total, matrix_by, product_of}
use Rattle.cap_matrix.proofs.Sums.{total-same}
use Rattle.cap_matrix.proofs.Entries.{matrix_ext, matrix_by-at, matrix_by-is, small-at, product-matrix, product-at}
use Rattle.cap_matrix.specs.Reduced.{InSpan, IsReducedBy}
use Rattle.cap_reduce.proofs.Unique.{known_at_leads}

-- a choice for each number below n
pub choose : {A : Type 0} (n : ℕ) (d : A) (P : ℕ → A → Type 0) → ((i : ℕ) → i < n → (x : A) × P i x) → (f : ℕ → A) × ((i : ℕ) → i < n → P i (f i))
choose n d P h = (
  λ i. ⊎_elim (λ lt. (h i lt).0) (λ ge. d) (cases_lt i n),
  λ i lt. elim (cases_lt i n) as (λ w. P i (⊎_elim (λ lt. (h i lt).0) (λ ge. d) w)) [
    | inl less ↦ (h i less).1
    | inr ge ↦ absurd (omega arith)
  ],
)

-- the factors of rows that are in a span
pub factors : (p n m : ℕ) (t : ℕ → ℕ → ℕ) (s : ℕ) (u : ℕ → ℕ → ℕ) → ((i : ℕ) → i < s → InSpan p n m t (u i))
    → (x : ℕ → ℕ → ℕ) × ((i : ℕ) → i < s → (j : ℕ) → j < m → total n (λ l. x i l * t l j) % p ≡ u i j % p)
factors p n m t s u h = choose s (λ l. 0) (λ i x. (j : ℕ) → j < m → total n (λ l. x l * t l j) % p ≡ u i j % p) h

pub reduced_same : (p r m : ℕ) (t u : ℕ → ℕ → ℕ) (lead : ℕ → ℕ) → IsReducedBy p r m t lead → ((i j : ℕ) → i < r → j < m → u i j ≡ t i j) → IsReducedBy p r m u lead
reduced_same p r m t u lead h e = record {
  residues = λ i j lt below. subst (λ x. x < p) (sym (e i j lt below)) (h.residues i j lt below);
  inside = h.inside;
  rising = h.rising;
  before = λ i j lt below. e i j lt (omega (arith, h.inside i lt)) ∙ h.before i j lt below;
  one = λ i lt. e i (lead i) lt (h.inside i lt) ∙ h.one i lt;
  clear = λ i k lt below ne. e i (lead k) lt (h.inside k below) ∙ h.clear i k lt below ne;
}

pub span_of_same : (p n m : ℕ) (t u : ℕ → ℕ → ℕ) (v : ℕ → ℕ) → ((i j : ℕ) → i < n → j < m → u i j ≡ t i j) → InSpan p n m t v → InSpan p n m u v
span_of_same p n m t u v e s = (s.0, λ j lt. ap (λ y. y % p) (total-same n (λ i. s.0 i * u i j) (λ i. s.0 i * t i j) (λ i below. ap (λ y. s.0 i * y) (e i j below lt))) ∙ s.1 j lt)

-- the columns of t at the leads
abbrev pub picked : ℕ → ℕ → ℕ → (ℕ → ℕ) → Grid → Grid
picked p a k lead t = matrix_by p a k (λ i l. entry t.entries i (lead l))

module _ {p k b : ℕ} {n : Grid} (lead : ℕ → ℕ) (big : 2 ≤ p) (N : IsMatrixOf p k b n) (R : IsReducedBy p k b (entry n.entries) lead) where
  pub picked-matrix : {a : ℕ} {t : Grid} → IsMatrixOf p a b t → IsMatrixOf p a k (picked p a k lead t)
  picked-matrix {a} {t} T = matrix_by-is p a k (λ i l. entry t.entries i (lead l)) (λ i l lt below. small-at T i (lead l) lt (R.inside l below))

  -- a matrix whose rows are in the span is this multiple
  pub by_leads : {a : ℕ} {t : Grid} → IsMatrixOf p a b t → ((i : ℕ) → i < a → InSpan p k b (entry n.entries) (entry t.entries i))
      → product_of (picked p a k lead t) n ≡ t
  by_leads {a} {t} T rows =
      let P = picked-matrix T in
      matrix_ext (product-matrix (omega arith) P N) T
      (λ i j lt below. product-at P N i j lt below
      ∙ ap (λ s. s % p) (total-same k (λ l. entry (picked p a k lead t).entries i l * entry n.entries l j) (λ l. entry t.entries i (lead l) * entry n.entries l j)
      (λ l inner. ap (λ s. s * entry n.entries l j) (matrix_by-at p a k (λ i l. entry t.entries i (lead l)) i l lt inner)))
      ∙ known_at_leads p k b (entry n.entries) lead (entry t.entries i) R (rows i lt) j below
      ∙ mod-eq_of_lt (small-at T i j lt below))
