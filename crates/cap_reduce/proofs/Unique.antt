-- A span has at most one reduced table.
use Rattle.std.proofs.Common.{◌≡◌, ◌≢◌, ℕ, zero, suc, ◌-◌, ◌*◌, ◌%◌, ◌<◌, ◌≤◌, ◌⊎◌, sym, ap, ◌∙◌, arith, inl, inr, ⊎_elim}
use Rattle.std.proofs.lemmas.Nat.{mul-mod_first}
use Rattle.std.proofs.lemmas.Bool.{cases_eq, cases_lt}
use Rattle.std.proofs.Math.Nat.{mul-zero, zero-mul, one-mul, mul-one, mod-eq_of_lt, zero-mod}
use Rattle.cap_matrix.specs.Grid.{total}
use Rattle.cap_matrix.proofs.Sums.{total-zeros, total-mod, total-one}
use Rattle.cap_matrix.specs.Reduced.{InSpan, IsReducedBy}

-- the factor of a row is the entry at its lead
pub factor_at_lead : (p r m : ℕ) (t : ℕ → ℕ → ℕ) (lead : ℕ → ℕ) (v : ℕ → ℕ) → IsReducedBy p r m t lead → (s : InSpan p r m t v)
    → (k : ℕ) → k < r → s.0 k % p ≡ v (lead k) % p
factor_at_lead p r m t lead v h s k lt =
    ap (λ y. y % p)
    (sym (mul-one (s.0 k)) ∙ ap (λ y. s.0 k * y) (sym (h.one k lt))
    ∙ sym (total-one r k (λ i. s.0 i * t i (lead k)) lt
    (λ i below apart. ap (λ y. s.0 i * y) (h.clear i k below lt apart) ∙ mul-zero (s.0 i))))
    ∙ s.1 (lead k) (h.inside k lt)

-- so a member of the span is known by its entries at the leads
pub known_at_leads : (p r m : ℕ) (t : ℕ → ℕ → ℕ) (lead : ℕ → ℕ) (v : ℕ → ℕ) → IsReducedBy p r m t lead → InSpan p r m t v
    → (j : ℕ) → j < m → total r (λ i. v (lead i) * t i j) % p ≡ v j % p
known_at_leads p r m t lead v h s j lt =
    total-mod p r (λ i. v (lead i) * t i j) (λ i. s.0 i * t i j)
    (λ i below. sym (mul-mod_first (v (lead i)) (t i j) p)
    ∙ ap (λ y. (y * t i j) % p) (sym (factor_at_lead p r m t lead v h s i below))
    ∙ mul-mod_first (s.0 i) (t i j) p)
    ∙ s.1 j lt

-- a number is found among the first r of a sequence, or it is none of them
pub find_among : (lead : ℕ → ℕ) (r j : ℕ) → ((k : ℕ) × (k < r) × (lead k ≡ j)) ⊎ ((k : ℕ) → k < r → lead k ≢ j)
find_among lead zero j = inr (λ k lt e. absurd (omega arith))
find_among lead (suc r) j =
    ⊎_elim (λ f. inl (f.0, omega (arith, f.1), f.2))
    (λ none. ⊎_elim (λ e. inl (r, omega arith, e))
    (λ ne. inr (λ k lt e. ⊎_elim (λ below. none k below e) (λ same. ne (ap lead (let s : r ≡ k = omega arith in s) ∙ e)) (cases_lt k r)))
    (cases_eq (lead r) j))
    (find_among lead r j)

-- the first entry of a member that is not 0 stands at a lead
pub first_at_lead : (p r m : ℕ) (t : ℕ → ℕ → ℕ) (lead : ℕ → ℕ) (v : ℕ → ℕ) (j : ℕ) → IsReducedBy p r m t lead → InSpan p r m t v
    → j < m → ((c : ℕ) → c < j → v c ≡ 0) → v j % p ≢ 0 → (k : ℕ) × (k < r) × (lead k ≡ j)
first_at_lead p r m t lead v j h s lt zeros some =
    ⊎_elim (λ f. f)
    (λ none. absurd (some (sym (known_at_leads p r m t lead v h s j lt) ∙ ap (λ y. y % p)
    (total-zeros r (λ i. v (lead i) * t i j)
    (λ i below. ⊎_elim
    (λ left. ap (λ y. y * t i j) (zeros (lead i) left) ∙ zero-mul (t i j))
    (λ right. ap (λ y. v (lead i) * y) (h.before i j below (let ne : lead i ≢ j = none i below in omega arith)) ∙ mul-zero (v (lead i)))
    (cases_lt (lead i) j)))
    ∙ zero-mod p)))
    (find_among lead r j)

-- two rising sequences with the same members are one
pub same_so_far : (l q : ℕ → ℕ) (r s : ℕ)
    → ((i k : ℕ) → i < k → k < r → l i < l k) → ((i k : ℕ) → i < k → k < s → q i < q k)
    → ((i : ℕ) → i < r → (k : ℕ) × (k < s) × (q k ≡ l i)) → ((i : ℕ) → i < s → (k : ℕ) × (k < r) × (l k ≡ q i))
    → (n k : ℕ) → k < n → k < r → (k < s) × (l k ≡ q k)
same_so_far l q r s rl rq a b zero k lt below = absurd (omega arith)
same_so_far l q r s rl rq a b (suc n) k lt below =
    let f = a k below in
    let high : k ≤ f.0 = ⊎_elim
    (λ less. let e = (same_so_far l q r s rl rq a b n f.0 (omega arith) (omega arith)).1 in
    let up = rl f.0 k less below in let same = f.2 in absurd (omega arith))
    (λ ge. ge) (cases_lt f.0 k) in
    let inner : k < s = let lim = f.1 in omega arith in
    let down : q k ≤ q f.0 = ⊎_elim (λ e. let x = ap q e in omega arith)
    (λ ne. let up = rq k f.0 (omega arith) f.1 in omega arith) (cases_eq k f.0) in
    let g = b k inner in
    let high2 : k ≤ g.0 = ⊎_elim
    (λ less. let e = (same_so_far l q r s rl rq a b n g.0 (omega arith) (let lim = g.1 in omega arith)).1 in
    let up = rq g.0 k less inner in let same = g.2 in absurd (omega arith))
    (λ ge. ge) (cases_lt g.0 k) in
    let down2 : l k ≤ l g.0 = ⊎_elim (λ e. let x = ap l e in omega arith)
    (λ ne. let up = rl k g.0 (omega arith) g.1 in omega arith) (cases_eq k g.0) in
    let same = f.2 in let same2 = g.2 in
    (inner, omega arith)

pub same_rising : (l q : ℕ → ℕ) (r s : ℕ)
    → ((i k : ℕ) → i < k → k < r → l i < l k) → ((i k : ℕ) → i < k → k < s → q i < q k)
    → ((i : ℕ) → i < r → (k : ℕ) × (k < s) × (q k ≡ l i)) → ((i : ℕ) → i < s → (k : ℕ) × (k < r) × (l k ≡ q i))
    → (r ≡ s) × ((k : ℕ) → k < r → l k ≡ q k)
same_rising l q r s rl rq a b =
    let one = λ (k : ℕ) (lt : k < r). same_so_far l q r s rl rq a b r k lt lt in
    let other = λ (k : ℕ) (lt : k < s). same_so_far q l s r rq rl b a s k lt lt in
    let le : r ≤ s = ⊎_elim (λ z. omega arith) (λ ne. let x : r - 1 < s = (one (r - 1) (omega arith)).0 in omega arith) (cases_eq r 0) in
    let ge : s ≤ r = ⊎_elim (λ z. omega arith) (λ ne. let x : s - 1 < r = (other (s - 1) (omega arith)).0 in omega arith) (cases_eq s 0) in
    (omega arith, λ k lt. (one k lt).1)

-- two reduced tables whose rows are in each other's span have as many rows, and the same
pub reduced_unique : (p r s m : ℕ) (t u : ℕ → ℕ → ℕ) (l q : ℕ → ℕ) → 2 ≤ p → IsReducedBy p r m t l → IsReducedBy p s m u q
    → ((i : ℕ) → i < r → InSpan p s m u (t i)) → ((i : ℕ) → i < s → InSpan p r m t (u i))
    → (r ≡ s) × ((i j : ℕ) → i < r → j < m → t i j ≡ u i j)
reduced_unique p r s m t u l q big h g a b =
    let one_is : 1 % p ≡ 1 = mod-eq_of_lt (omega arith) in
    let leads = same_rising l q r s h.rising g.rising
    (λ i lt. first_at_lead p s m u q (t i) (l i) g (a i lt) (h.inside i lt) (λ c before. h.before i c lt before)
    (λ e. let x : 1 ≡ 0 = sym one_is ∙ ap (λ y. y % p) (sym (h.one i lt)) ∙ e in omega arith))
    (λ i lt. first_at_lead p r m t l (u i) (q i) h (b i lt) (g.inside i lt) (λ c before. g.before i c lt before)
    (λ e. let x : 1 ≡ 0 = sym one_is ∙ ap (λ y. y % p) (sym (g.one i lt)) ∙ e in omega arith)) in
    let same_count : r ≡ s = leads.0 in (
      same_count,
      λ i j lt below.
          let inner : i < s = omega arith in
          sym (mod-eq_of_lt (h.residues i j lt below))
          ∙ sym (known_at_leads p s m u q (t i) g (a i lt) j below)
          ∙ ap (λ y. y % p)
          (total-one s i (λ k. t i (q k) * u k j) inner
          (λ k lk apart. ap (λ y. t i y * u k j) (sym (leads.1 k (omega arith)))
          ∙ ap (λ y. y * u k j) (h.clear i k lt (omega arith) (λ e. apart (sym e))) ∙ zero-mul (u k j))
          ∙ ap (λ y. t i y * u i j) (sym (leads.1 i lt)) ∙ ap (λ y. y * u i j) (h.one i lt) ∙ one-mul (u i j))
          ∙ mod-eq_of_lt (g.residues i j inner below),
    )
