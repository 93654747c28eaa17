-- The steps of an elimination keep the span, and clear one column more.
use Rattle.std.proofs.Common.{◌≡◌, ◌≢◌, ℕ, ◌+◌, ◌-◌, ◌*◌, ◌%◌, ◌<◌, ◌≤◌, ◌⊎◌, cond, eqb, refl, sym, ap, ◌∙◌, arith, ⊎_elim}
use Rattle.std.proofs.lemmas.Bool.{cases_eq, cases_lt, eq-eqb, ne_eqb, cond-true, cond-false}
use Rattle.std.proofs.Math.Nat.{mod_self, mod-eq_of_lt, zero-mod, mul-zero, zero-mul, mul-one, add-zero}
use Rattle.cap_reduce.specs.Cleared.{IsCleared, IsPivoted, IsSwapped}

-- the start: nothing is cleared
pub cleared_start : (p n m : ℕ) (t : ℕ → ℕ → ℕ) → ((i c : ℕ) → i < n → c < m → t i c < p) → IsCleared p n m t (λ i. 0) 0 0
cleared_start p n m t h = record {
  few = omega arith;
  residues = h;
  inside = λ i lt. absurd (omega arith);
  rising = λ i k lt below. absurd (omega arith);
  before = λ i c lt below. absurd (omega arith);
  one = λ i lt. absurd (omega arith);
  clear = λ i k lt below. absurd (omega arith);
  under = λ i c a lt below. absurd (omega arith);
}

-- a column without a pivot
pub cleared_skip : (p n m : ℕ) (t : ℕ → ℕ → ℕ) (lead : ℕ → ℕ) (r j : ℕ) → IsCleared p n m t lead r j
    → ((i : ℕ) → r ≤ i → i < n → t i j ≡ 0) → IsCleared p n m t lead r (j + 1)
cleared_skip p n m t lead r j h zeros = record {
  few = h.few;
  residues = h.residues;
  inside = λ i lt. let e = h.inside i lt in omega arith;
  rising = h.rising;
  before = h.before;
  one = h.one;
  clear = h.clear;
  under = λ i c a lt below. ⊎_elim (λ less. h.under i c a lt less) (λ ge. ap (t i) (let e : c ≡ j = omega arith in e) ∙ zeros i a lt) (cases_lt c j);
}

-- two rows that are not yet reduced change places
pub cleared_swap : (p n m : ℕ) (t u : ℕ → ℕ → ℕ) (lead : ℕ → ℕ) (r j k : ℕ) → j ≤ m → r ≤ k → k < n → IsCleared p n m t lead r j → IsSwapped n m t u r k
    → IsCleared p n m u lead r j
cleared_swap p n m t u lead r j k jm rk kn h s =
    let old = λ (i c : ℕ) (lt : i < r) (below : c < m). s.others i c (let f = h.few in omega arith) (omega arith) (omega arith) below in
    record {
      few = h.few;
      residues = λ i c lt below. ⊎_elim
          (λ e. let x = ap (λ y. u y c) e ∙ s.first c below in let y = h.residues k c kn below in omega arith)
          (λ ne. ⊎_elim (λ e. let x = ap (λ y. u y c) e ∙ s.second c below in let y = h.residues r c (omega arith) below in omega arith)
          (λ ne2. let x = s.others i c lt ne ne2 below in let y = h.residues i c lt below in omega arith) (cases_eq i k)) (cases_eq i r);
      inside = h.inside;
      rising = h.rising;
      before = λ i c lt below. let e = h.inside i lt in old i c lt (omega arith) ∙ h.before i c lt below;
      one = λ i lt. let e = h.inside i lt in old i (lead i) lt (omega arith) ∙ h.one i lt;
      clear = λ i q lt below ne. let e = h.inside q below in let fits : lead q < m = omega arith in ⊎_elim
          (λ e. ap (λ y. u y (lead q)) e ∙ s.first (lead q) fits ∙ h.clear k q kn below (omega arith))
          (λ nr. ⊎_elim (λ e. ap (λ y. u y (lead q)) e ∙ s.second (lead q) fits ∙ h.clear r q (omega arith) below (omega arith))
          (λ nk. s.others i (lead q) lt nr nk fits ∙ h.clear i q lt below ne) (cases_eq i k)) (cases_eq i r);
      under = λ i c a lt below. let fits : c < m = omega arith in ⊎_elim
          (λ e. ap (λ y. u y c) e ∙ s.first c fits ∙ h.under k c rk kn below)
          (λ nr. ⊎_elim (λ e. ap (λ y. u y c) e ∙ s.second c fits ∙ h.under r c (omega arith) (omega arith) below)
          (λ nk. s.others i c lt nr nk fits ∙ h.under i c a lt below) (cases_eq i k)) (cases_eq i r);
    }

-- the leads with one more
abbrev pub with_lead : (ℕ → ℕ) → ℕ → ℕ → (ℕ → ℕ)
with_lead lead r j = λ i. cond (eqb i r) j (lead i)

with_lead-new : (lead : ℕ → ℕ) (r j : ℕ) → with_lead lead r j r ≡ j
with_lead-new lead r j = cond-true (eqb r r) j (lead r) (eq-eqb r r refl)

with_lead-old : (lead : ℕ → ℕ) (r j i : ℕ) → i ≢ r → with_lead lead r j i ≡ lead i
with_lead-old lead r j i ne = cond-false (eqb i r) j (lead i) (ne_eqb i r ne)

-- what a pivot leaves: the columns before it, and its own
module _ (p n m : ℕ) (t u : ℕ → ℕ → ℕ) (lead : ℕ → ℕ) (r j b : ℕ) (big : 2 ≤ p) (rn : r < n) (jm : j < m)
    (h : IsCleared p n m t lead r j) (g : IsPivoted p n m t u r j b) where
  pub row_before : (c : ℕ) → c < j → u r c ≡ 0
  row_before c lt = g.row c (omega arith) ∙ ap (λ y. (y * b) % p) (h.under r c (omega arith) rn lt) ∙ ap (λ y. y % p) (zero-mul b) ∙ zero-mod p

  pub same_before : (i c : ℕ) → i < n → c < j → u i c ≡ t i c
  same_before i c lt below =
      ⊎_elim (λ e. ap (λ y. u y c) e ∙ row_before c below ∙ sym (ap (λ y. t y c) e ∙ h.under r c (omega arith) rn below))
      (λ ne. g.others i c lt ne (omega arith) ∙ ap (λ y. (t i c + (p - t i j) * y) % p) (row_before c below)
      ∙ ap (λ y. (t i c + y) % p) (mul-zero (p - t i j)) ∙ ap (λ y. y % p) (add-zero (t i c)) ∙ mod-eq_of_lt (h.residues i c lt (omega arith)))
      (cases_eq i r)

  pub new_one : u r j ≡ 1
  new_one = g.row j jm ∙ g.unit

  pub new_clear : (i : ℕ) → i < n → i ≢ r → u i j ≡ 0
  new_clear i lt ne =
      let small = h.residues i j lt jm in
      g.others i j lt ne jm ∙ ap (λ y. (t i j + (p - t i j) * y) % p) new_one
      ∙ ap (λ y. (t i j + y) % p) (mul-one (p - t i j))
      ∙ ap (λ y. y % p) (let e : t i j + (p - t i j) ≡ p = omega arith in e) ∙ mod_self p

pub cleared_pivot : (p n m : ℕ) (t u : ℕ → ℕ → ℕ) (lead : ℕ → ℕ) (r j b : ℕ) → 2 ≤ p → r < n → j < m
    → IsCleared p n m t lead r j → IsPivoted p n m t u r j b → ((i c : ℕ) → i < n → c < m → u i c < p)
    → IsCleared p n m u (with_lead lead r j) (r + 1) (j + 1)
cleared_pivot p n m t u lead r j b big rn jm h g small =
    let same = same_before p n m t u lead r j b big rn jm h g in
    let at_r : with_lead lead r j r ≡ j = with_lead-new lead r j in
    let at = λ (i : ℕ) (lt : i < r). with_lead-old lead r j i (let ne : i ≢ r = omega arith in ne) in
    let split = λ (i : ℕ) (lt : i < r + 1). let e : (i < r) ⊎ (r ≤ i) = cases_lt i r in e in
    record {
      few = omega arith;
      residues = small;
      inside = λ i lt. ⊎_elim (λ less. let e = at i less in let f = h.inside i less in omega arith)
          (λ ge. let e = ap (with_lead lead r j) (let s : i ≡ r = omega arith in s) in omega arith) (split i lt);
      rising = λ i k lt below. let ei = at i (omega arith) in ⊎_elim
          (λ less. let e = at k less in let f = h.rising i k lt less in omega arith)
          (λ ge. let e = ap (with_lead lead r j) (let s : k ≡ r = omega arith in s) in let f = h.inside i (omega arith) in omega arith) (split k below);
      before = λ i c lt below. ⊎_elim
          (λ less. let e = at i less in let f = h.inside i less in same i c (omega arith) (omega arith) ∙ h.before i c less (omega arith))
          (λ ge. let s : i ≡ r = omega arith in let e = ap (with_lead lead r j) s in
          ap (λ y. u y c) s ∙ row_before p n m t u lead r j b big rn jm h g c (omega arith)) (split i lt);
      one = λ i lt. ⊎_elim
          (λ less. let f = h.inside i less in ap (u i) (at i less) ∙ same i (lead i) (omega arith) (omega arith) ∙ h.one i less)
          (λ ge. let s : i ≡ r = omega arith in ap (λ y. u y (with_lead lead r j y)) s ∙ ap (u r) at_r ∙ new_one p n m t u lead r j b big rn jm h g) (split i lt);
      clear = λ i k lt below ne. ⊎_elim
          (λ less. let f = h.inside k less in ap (u i) (at k less) ∙ same i (lead k) lt (omega arith) ∙ h.clear i k lt less ne)
          (λ ge. let s : k ≡ r = omega arith in ap (λ y. u i (with_lead lead r j y)) s ∙ ap (u i) at_r ∙ new_clear p n m t u lead r j b big rn jm h g i lt (omega arith)) (split k below);
      under = λ i c a lt below. ⊎_elim
          (λ less. same i c lt less ∙ h.under i c (omega arith) lt less)
          (λ ge. ap (u i) (let s : c ≡ j = omega arith in s) ∙ new_clear p n m t u lead r j b big rn jm h g i lt (omega arith)) (cases_lt c j);
    }
