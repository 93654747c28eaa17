-- The rows of M outside the span of those before are the leads of the reduced form of the transpose, and what solves x·M = v.
use Rattle.std.proofs.Common.{◌≡◌, ◌≢◌, ℕ, ◌*◌, ◌%◌, ◌<◌, ◌≤◌, inl, inr, refl, sym, ap, ◌∙◌, arith, ⊎_elim}
use Rattle.std.proofs.lemmas.Nat.{mul-mod_second}
use Rattle.std.proofs.lemmas.Bool.{cases_lt, cases_order}
use Rattle.std.proofs.Math.Nat.{mul-zero, zero-mul, mul-one, mul_left_comm, zero-mod, mod-eq_of_lt}
use Rattle.cap_matrix.specs.Grid.{total}
use Rattle.cap_matrix.proofs.Sums.{total-same, total-zeros, total-mod, total-one, total-swap, total-scale}
use Rattle.cap_matrix.specs.Reduced.{InSpan, IsReducedBy}
use Rattle.cap_reduce.proofs.Unique.{find_among}

-- if u's rows are in the span of t's, then a combination of columns of t that gives a column gives that column of u too
pub column_kept : (p n m : ℕ) (t u : ℕ → ℕ → ℕ) (w y : ℕ → ℕ) (k : ℕ) → ((i : ℕ) → i < n → InSpan p n m t (u i)) → (d : ℕ) → d < m → k ≤ m
    → ((i : ℕ) → i < n → total k (λ c. y c * t i c) % p ≡ t i d % p) → (i : ℕ) → i < n → total k (λ c. y c * u i c) % p ≡ u i d % p
column_kept p n m t u w y k rows d dm km h i lt =
    let s = rows i lt in
    total-mod p k (λ c. y c * u i c) (λ c. y c * total n (λ a. s.0 a * t a c))
    (λ c below. sym (mul-mod_second (y c) (u i c) p) ∙ ap (λ z. (y c * z) % p) (sym (s.1 c (omega arith))) ∙ mul-mod_second (y c) (total n (λ a. s.0 a * t a c)) p)
    ∙ ap (λ z. z % p)
    (total-same k (λ c. y c * total n (λ a. s.0 a * t a c)) (λ c. total n (λ a. y c * (s.0 a * t a c)))
    (λ c below. sym (total-scale n (y c) (λ a. s.0 a * t a c)))
    ∙ total-swap k n (λ c a. y c * (s.0 a * t a c))
    ∙ total-same n (λ a. total k (λ c. y c * (s.0 a * t a c))) (λ a. s.0 a * total k (λ c. y c * t a c))
    (λ a below. total-same k (λ c. y c * (s.0 a * t a c)) (λ c. s.0 a * (y c * t a c)) (λ c inner. mul_left_comm (y c) (s.0 a) (t a c))
    ∙ total-scale k (s.0 a) (λ c. y c * t a c)))
    ∙ total-mod p n (λ a. s.0 a * total k (λ c. y c * t a c)) (λ a. s.0 a * t a d)
    (λ a below. sym (mul-mod_second (s.0 a) (total k (λ c. y c * t a c)) p) ∙ ap (λ z. (s.0 a * z) % p) (h a below) ∙ mul-mod_second (s.0 a) (t a d) p)
    ∙ s.1 d dm

zero_is_not_one : (a b : ℕ) → a ≡ b → a ≡ 0 → b ≡ 1 → ⊥
zero_is_not_one a b e z o = omega arith

-- no combination of columns before a lead gives the lead's column
pub lead_is_new : (p r m : ℕ) (u : ℕ → ℕ → ℕ) (lead : ℕ → ℕ) (y : ℕ → ℕ) (k : ℕ) → 2 ≤ p → IsReducedBy p r m u lead → k < r
    → total (lead k) (λ c. y c * u k c) % p ≢ u k (lead k) % p
lead_is_new p r m u lead y k big h lt e =
    let z : total (lead k) (λ c. y c * u k c) ≡ 0 = total-zeros (lead k) (λ c. y c * u k c) (λ c below. ap (λ w. y c * w) (h.before k c lt below) ∙ mul-zero (y c)) in
    let one_is : 1 % p ≡ 1 = mod-eq_of_lt (omega arith) in
    zero_is_not_one (total (lead k) (λ c. y c * u k c) % p) (u k (lead k) % p) e
    (ap (λ w. w % p) z ∙ zero-mod p) (ap (λ w. w % p) (h.one k lt) ∙ one_is)

-- the factor of column c in the combination of lead columns that gives column d: row k's entry in column d where c is the lead of k, else 0
abbrev pub factor : (ℕ → ℕ → ℕ) → (ℕ → ℕ) → ℕ → ℕ → ℕ → ℕ
factor u lead r d c = ⊎_elim (λ f. u f.0 d) (λ none. 0) (find_among lead r c)

pub factor_at_lead_is : (p r m : ℕ) (u : ℕ → ℕ → ℕ) (lead : ℕ → ℕ) (d i : ℕ) → IsReducedBy p r m u lead → i < r → factor u lead r d (lead i) ≡ u i d
factor_at_lead_is p r m u lead d i h lt =
    elim (find_among lead r (lead i)) as (λ w. ⊎_elim (λ f. u f.0 d) (λ none. 0) w ≡ u i d) [
      | inl f ↦ ap (λ q. u q d) (⊎_elim (λ e. e)
          (λ o. let same = f.2 in ⊎_elim (λ less. let x = h.rising f.0 i less lt in absurd (omega arith)) (λ more. let x = h.rising i f.0 more f.1 in absurd (omega arith)) o)
          (cases_order f.0 i))
      | inr none ↦ absurd (none i lt refl)
    ]

pub factor_off_leads : (u : ℕ → ℕ → ℕ) (lead : ℕ → ℕ) (r d c : ℕ) → ((k : ℕ) → k < r → lead k ≢ c) → factor u lead r d c ≡ 0
factor_off_leads u lead r d c none =
    elim (find_among lead r c) as (λ w. ⊎_elim (λ f. u f.0 d) (λ none. 0) w ≡ 0) [ inl f ↦ absurd (none f.0 f.1 f.2) | inr g ↦ refl ]

factor_elsewhere : (p r m : ℕ) (u : ℕ → ℕ → ℕ) (lead : ℕ → ℕ) (d i c : ℕ) → IsReducedBy p r m u lead → i < r → c ≢ lead i → factor u lead r d c * u i c ≡ 0
factor_elsewhere p r m u lead d i c h lt ne =
    elim (find_among lead r c) as (λ w. ⊎_elim (λ f. u f.0 d) (λ none. 0) w * u i c ≡ 0) [
      | inl f ↦ ap (λ q. u f.0 d * q) (ap (u i) (sym f.2) ∙ h.clear i f.0 lt f.1 (λ e. ne (sym f.2 ∙ ap lead (sym e)))) ∙ mul-zero (u f.0 d)
      | inr none ↦ zero-mul (u i c)
    ]

-- a column that is no lead is a combination of the lead columns before it
pub column_by_leads : (p r m : ℕ) (u : ℕ → ℕ → ℕ) (lead : ℕ → ℕ) (d : ℕ) → IsReducedBy p r m u lead → ((k : ℕ) → k < r → lead k ≢ d)
    → (i : ℕ) → i < r → total d (λ c. factor u lead r d c * u i c) ≡ u i d
column_by_leads p r m u lead d h none i lt =
    ⊎_elim
    (λ less. total-one d (lead i) (λ c. factor u lead r d c * u i c) less (λ c below ne. factor_elsewhere p r m u lead d i c h lt ne)
    ∙ ap (λ q. factor u lead r d (lead i) * q) (h.one i lt) ∙ mul-one (factor u lead r d (lead i)) ∙ factor_at_lead_is p r m u lead d i h lt)
    (λ ge. let ne = none i lt in
    total-zeros d (λ c. factor u lead r d c * u i c) (λ c below. ap (λ q. factor u lead r d c * q) (h.before i c lt (omega arith)) ∙ mul-zero (factor u lead r d c))
    ∙ sym (h.before i d lt (omega arith)))
    (cases_lt (lead i) d)

-- a combination of lead columns alone that gives column d has the entries of column d as its factors
pub factors_known : (p r m : ℕ) (u : ℕ → ℕ → ℕ) (lead x : ℕ → ℕ) (d : ℕ) → IsReducedBy p r m u lead
    → ((c : ℕ) → c < d → ((k : ℕ) → k < r → lead k ≢ c) → x c ≡ 0)
    → ((i : ℕ) → i < r → total d (λ c. x c * u i c) % p ≡ u i d % p)
    → (i : ℕ) → i < r → lead i < d → x (lead i) % p ≡ u i d % p
factors_known p r m u lead x d h alone gives i lt less =
    ap (λ q. q % p)
    (sym (mul-one (x (lead i))) ∙ ap (λ q. x (lead i) * q) (sym (h.one i lt))
    ∙ sym (total-one d (lead i) (λ c. x c * u i c) less
    (λ c below ne. ⊎_elim
    (λ f. ap (λ q. x c * q) (ap (u i) (sym f.2) ∙ h.clear i f.0 lt f.1 (λ e. ne (sym f.2 ∙ ap lead (sym e)))) ∙ mul-zero (x c))
    (λ none. ap (λ q. q * u i c) (alone c below none) ∙ zero-mul (u i c))
    (find_among lead r c))))
    ∙ gives i lt
