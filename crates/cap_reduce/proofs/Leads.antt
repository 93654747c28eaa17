-- A scan of reduced rows for their leads, and the null table that it gives.
use Rattle.std.proofs.Common.{◌≡◌, ◌≢◌, ℕ, zero, suc, ◌+◌, ◌-◌, ◌%◌, ◌<◌, ◌≤◌, cond, eqb, ltb, List, length, get_or, set, refl, sym, ap, ◌∙◌, subst, arith, inl, inr, ⊎_elim, add-one}
use Rattle.std.proofs.lemmas.List.{length-set, get_or-set_same, get_or-set_other}
use Rattle.std.proofs.lemmas.Bool.{cases_eq, cases_lt, eq-eqb, ne_eqb, lt-ltb, le-ltb, cond-true, cond-false}
use Rattle.std.proofs.Math.Nat.{mod-lt}
use Rattle.cap_matrix.specs.Grid.{row_by}
use Rattle.cap_matrix.proofs.Rows.{length-row_by}
use Rattle.cap_matrix.proofs.Entries.{delta-small}
use Rattle.cap_matrix.specs.Reduced.{IsReducedBy}
use Rattle.cap_reduce.specs.NullTable.{IsFree, IsNullTable, IsScanned, null_value, null_entry}

abbrev pub at : List ℕ → ℕ → ℕ
at xs i = get_or xs i 0

pub scanned_start : (r : ℕ) (lead : ℕ → ℕ) (place free : List ℕ) → IsScanned r lead (at place) (at free) 0 0
scanned_start r lead place free = record {
  met = omega arith;
  few = omega arith;
  past = λ i lt. absurd (omega arith);
  ahead = λ i le lt. omega arith;
  placed = λ i lt. absurd (omega arith);
  inside = λ j lt. absurd (omega arith);
  rising = λ j l lt below. absurd (omega arith);
  nowhere = λ j lt. absurd (omega arith);
  every = λ q lt. absurd (omega arith);
}

-- column c is the lead of row a
pub scanned_lead : (p r n : ℕ) (u : ℕ → ℕ → ℕ) (lead : ℕ → ℕ) (place free : List ℕ) (a c : ℕ) → IsReducedBy p r n u lead → IsScanned r lead (at place) (at free) a c
    → a < r → c < length place → lead a ≡ c → IsScanned r lead (at (set place c a)) (at free) (a + 1) (c + 1)
scanned_lead p r n u lead place free a c R h lt wide e =
    let other : (q : ℕ) → q < c → at (set place c a) q ≡ at place q = λ q less. get_or-set_other place c q a 0 (omega arith) in
    record {
      met = omega (arith, h.met);
      few = omega arith;
      past = λ i below. ⊎_elim (λ less. omega (arith, h.past i less)) (λ ge. omega (arith, ap lead (let s : i ≡ a = omega arith in s))) (cases_lt i a);
      ahead = λ i le below. omega (arith, R.rising a i (let s : a < i = omega arith in s) below);
      placed = λ i below. ⊎_elim
          (λ less. other (lead i) (h.past i less) ∙ h.placed i less)
          (λ ge. let s : i ≡ a = omega arith in ap (at (set place c a)) (ap lead s ∙ e) ∙ get_or-set_same place c a 0 wide ∙ sym s)
          (cases_lt i a);
      inside = λ j below. omega (arith, h.inside j (let s : j < c - a = omega arith in s));
      rising = λ j l less below. h.rising j l less (omega arith);
      nowhere = λ j below. let s : j < c - a = omega arith in other (at free j) (h.inside j s) ∙ h.nowhere j s;
      every = λ q below. ⊎_elim
          (λ less. ⊎_elim (λ f. inl (f.0, omega (arith, f.1), f.2)) (λ f. inr (f.0, omega (arith, f.1), f.2)) (h.every q less))
          (λ ge. inl (a, omega arith, e ∙ (let s : c ≡ q = omega arith in s)))
          (cases_lt q c);
    }

-- column c is no lead
pub scanned_free : (r : ℕ) (lead : ℕ → ℕ) (place free : List ℕ) (a c : ℕ) → IsScanned r lead (at place) (at free) a c
    → c < length place → c < length free → ((i : ℕ) → a ≤ i → i < r → lead i ≢ c) → IsScanned r lead (at (set place c r)) (at (set free (c - a) c)) a (c + 1)
scanned_free r lead place free a c h wide wide2 none =
    let other : (q : ℕ) → q < c → at (set place c r) q ≡ at place q = λ q less. get_or-set_other place c q r 0 (omega arith) in
    let old : (j : ℕ) → j < c - a → at (set free (c - a) c) j ≡ at free j = λ j less. get_or-set_other free (c - a) j c 0 (omega arith) in
    let new : at (set free (c - a) c) (c - a) ≡ c = get_or-set_same free (c - a) c 0 (omega arith) in
    let met = h.met in
    record {
      met = omega arith;
      few = h.few;
      past = λ i below. omega (arith, h.past i below);
      ahead = λ i le below. omega (arith, h.ahead i le below, none i le below);
      placed = λ i below. other (lead i) (h.past i below) ∙ h.placed i below;
      inside = λ j below. ⊎_elim
          (λ less. omega (arith, old j less, h.inside j less))
          (λ ge. omega (arith, ap (at (set free (c - a) c)) (let s : j ≡ c - a = omega arith in s), new))
          (cases_lt j (c - a));
      rising = λ j l less below. let first = let s : j < c - a = omega arith in s in ⊎_elim
          (λ under. omega (arith, old j first, old l under, h.rising j l less under))
          (λ ge. omega (arith, old j first, h.inside j first, ap (at (set free (c - a) c)) (let s : l ≡ c - a = omega arith in s), new))
          (cases_lt l (c - a));
      nowhere = λ j below. ⊎_elim
          (λ less. ap (at (set place c r)) (old j less) ∙ other (at free j) (h.inside j less) ∙ h.nowhere j less)
          (λ ge. ap (λ y. at (set place c r) (at (set free (c - a) c) y)) (let s : j ≡ c - a = omega arith in s)
          ∙ ap (at (set place c r)) new ∙ get_or-set_same place c r 0 wide)
          (cases_lt j (c - a));
      every = λ q below. ⊎_elim
          (λ less. ⊎_elim (λ f. inl f) (λ f. inr (f.0, omega (arith, f.1), old f.0 f.1 ∙ f.2)) (h.every q less))
          (λ ge. inr (c - a, omega arith, new ∙ (let s : c ≡ q = omega arith in s)))
          (cases_lt q c);
    }

-- an entry that is not 0 in a column up to the lead is at the lead
pub lead_found : (p r n : ℕ) (u : ℕ → ℕ → ℕ) (lead : ℕ → ℕ) (a c : ℕ) → IsReducedBy p r n u lead → a < r → c ≤ lead a → u a c ≢ 0 → lead a ≡ c
lead_found p r n u lead a c R lt le some = ⊎_elim (λ less. absurd (some (R.before a c lt less))) (λ ge. omega arith) (cases_lt c (lead a))

-- an entry 0 is at no lead, and so are columns before the lead
pub no_lead : (p r n : ℕ) (u : ℕ → ℕ → ℕ) (lead : ℕ → ℕ) (a c : ℕ) → IsReducedBy p r n u lead → ((i : ℕ) → a ≤ i → i < r → c ≤ lead i) → (a < r → u a c ≡ 0)
    → (i : ℕ) → a ≤ i → i < r → lead i ≢ c
no_lead p r n u lead a c R ahead zero_at i le lt e =
    let top : a < r = omega arith in
    ⊎_elim
    (λ same. let x : u a c ≡ 1 = ap (u a) (sym e ∙ ap lead same) ∙ R.one a top in let y = zero_at top in omega arith)
    (λ ne. let x = R.rising a i (let s : a < i = omega arith in s) lt in let y = ahead a (let s : a ≤ a = omega arith in s) top in omega arith)
    (cases_eq i a)

-- at the end all leads are met
pub scanned_end : (p r n : ℕ) (u : ℕ → ℕ → ℕ) (lead place free : ℕ → ℕ) (a c : ℕ) → IsReducedBy p r n u lead → c ≡ n → IsScanned r lead place free a c → IsScanned r lead place free r n
scanned_end p r n u lead place free a c R e h =
    let all : a ≡ r = ⊎_elim (λ less. let x = h.ahead a (let s : a ≤ a = omega arith in s) less in let y = R.inside a less in absurd (omega arith)) (λ ge. omega (arith, h.few)) (cases_lt a r) in
    subst (λ k. IsScanned r lead place free k n) all (subst (λ k. IsScanned r lead place free a k) e h)

-- the entries of a null column are residues
pub null_value-small : (p r : ℕ) (u : ℕ → ℕ → ℕ) (place : ℕ → ℕ) (f q : ℕ) → 2 ≤ p → null_value p r u place f q < p
null_value-small p r u place f q big =
    let x = (p - u (place q) f) % p in
    ⊎_elim
    (λ less. subst (λ y. y < p) (sym (cond-true (ltb (place q) r) x (cond (eqb q f) 1 0) (lt-ltb (place q) r less))) (mod-lt (p - u (place q) f) (let s : 1 ≤ p = omega arith in s)))
    (λ ge. subst (λ y. y < p) (sym (cond-false (ltb (place q) r) x (cond (eqb q f) 1 0) (le-ltb (place q) r ge))) (delta-small p q f big))
    (cases_lt (place q) r)

-- at a free column, and at a lead
pub null_value-free : (p r : ℕ) (u : ℕ → ℕ → ℕ) (place : ℕ → ℕ) (f q : ℕ) → r ≤ place q → null_value p r u place f q ≡ cond (eqb q f) 1 0
null_value-free p r u place f q ge = cond-false (ltb (place q) r) ((p - u (place q) f) % p) (cond (eqb q f) 1 0) (le-ltb (place q) r ge)

pub null_value-lead : (p r : ℕ) (u : ℕ → ℕ → ℕ) (place : ℕ → ℕ) (f q a : ℕ) → place q ≡ a → a < r → null_value p r u place f q ≡ (p - u a f) % p
null_value-lead p r u place f q a e less =
    cond-true (ltb (place q) r) ((p - u (place q) f) % p) (cond (eqb q f) 1 0) (lt-ltb (place q) r (omega arith)) ∙ ap (λ y. (p - u y f) % p) e

-- the scan of reduced rows, as data
pub record HasScan (r n : ℕ) (lead : ℕ → ℕ) : Type 0 where
  pub place : ℕ → ℕ
  pub free : ℕ → ℕ
  pub is : IsScanned r lead place free r n

record ScanSoFar (r n : ℕ) (lead : ℕ → ℕ) (c : ℕ) : Type 0 where
  place : List ℕ
  free : List ℕ
  met : ℕ
  wide : length place ≡ n
  wide2 : length free ≡ n
  is : IsScanned r lead (at place) (at free) met c

scan_to : (p r n : ℕ) (u : ℕ → ℕ → ℕ) (lead : ℕ → ℕ) → IsReducedBy p r n u lead → (c : ℕ) → c ≤ n → ScanSoFar r n lead c
scan_to p r n u lead R zero le = record {
  place = row_by n (λ i. 0);
  free = row_by n (λ i. 0);
  met = 0;
  wide = length-row_by n (λ i. 0);
  wide2 = length-row_by n (λ i. 0);
  is = scanned_start r lead (row_by n (λ i. 0)) (row_by n (λ i. 0));
}
scan_to p r n u lead R (suc c) le =
    let s = scan_to p r n u lead R c (omega arith) in
    let a = s.met in
    let skip : ((i : ℕ) → a ≤ i → i < r → lead i ≢ c) → ScanSoFar r n lead (suc c) = λ none. record {
      place = set s.place c r;
      free = set s.free (c - a) c;
      met = a;
      wide = length-set s.place c r ∙ s.wide;
      wide2 = length-set s.free (c - a) c ∙ s.wide2;
      is = subst (λ k. IsScanned r lead (at (set s.place c r)) (at (set s.free (c - a) c)) a k) (add-one c)
          (scanned_free r lead s.place s.free a c s.is (omega (arith, s.wide)) (omega (arith, s.wide2)) none);
    } in
    ⊎_elim
    (λ top. ⊎_elim
    (λ here. record {
      place = set s.place c a;
      free = s.free;
      met = a + 1;
      wide = length-set s.place c a ∙ s.wide;
      wide2 = s.wide2;
      is = subst (λ k. IsScanned r lead (at (set s.place c a)) (at s.free) (a + 1) k) (add-one c) (scanned_lead p r n u lead s.place s.free a c R s.is top (omega (arith, s.wide)) here);
    })
    (λ apart. skip (λ i ge lt. ⊎_elim (λ same. λ e. apart (ap lead (sym same) ∙ e))
    (λ ne. λ e. omega (arith, R.rising a i (let x : a < i = omega arith in x) lt, s.is.ahead a (let x : a ≤ a = omega arith in x) top)) (cases_eq i a)))
    (cases_eq (lead a) c))
    (λ past. skip (λ i ge lt. absurd (omega arith)))
    (cases_lt a r)

pub has_scan : (p r n : ℕ) (u : ℕ → ℕ → ℕ) (lead : ℕ → ℕ) → IsReducedBy p r n u lead → HasScan r n lead
has_scan p r n u lead R =
    let s = scan_to p r n u lead R n (omega arith) in
    record { place = at s.place; free = at s.free; is = scanned_end p r n u lead (at s.place) (at s.free) s.met n R refl s.is }

module _ (p r n : ℕ) (u : ℕ → ℕ → ℕ) (lead place free : ℕ → ℕ) (h : IsScanned r lead place free r n) where
  abbrev pub backwards : ℕ → ℕ
  backwards i = free (n - r - 1 - i)

  pub scanned_is_free : IsFree r n (n - r) lead backwards
  scanned_is_free = record {
    inside = λ i lt. h.inside (n - r - 1 - i) (omega arith);
    falling = λ i l lt below. h.rising (n - r - 1 - l) (n - r - 1 - i) (omega arith) (omega arith);
    apart = λ a i lt below e. let x = h.placed a lt in let y = h.nowhere (n - r - 1 - i) (omega arith) in let z = ap place e in omega arith;
    every = λ c lt. ⊎_elim (λ f. inl f)
        (λ f. inr (n - r - 1 - f.0, omega (arith, f.1), ap free (let s : n - r - 1 - (n - r - 1 - f.0) ≡ f.0 = omega (arith, f.1) in s) ∙ f.2))
        (h.every c lt);
  }

  abbrev pub null_table : ℕ → ℕ → ℕ
  null_table i c = null_entry p r n u place (backwards i) c

  free_entry : (f q : ℕ) → place q ≡ r → q < n → null_entry p r n u place f (n - 1 - q) ≡ cond (eqb q f) 1 0
  free_entry f q e lt = ap (null_value p r u place f) (let back : n - 1 - (n - 1 - q) ≡ q = omega arith in back) ∙ null_value-free p r u place f q (omega arith)

  lead_entry : (f q a : ℕ) → place q ≡ a → a < r → q < n → null_entry p r n u place f (n - 1 - q) ≡ (p - u a f) % p
  lead_entry f q a e less lt = ap (null_value p r u place f) (let back : n - 1 - (n - 1 - q) ≡ q = omega arith in back) ∙ null_value-lead p r u place f q a e less

  pub scanned_is_table : IsReducedBy p r n u lead → IsNullTable p r n (n - r) u lead backwards null_table
  scanned_is_table R = record {
    one = λ i lt. let s : n - r - 1 - i < n - r = omega arith in
        free_entry (backwards i) (backwards i) (h.nowhere (n - r - 1 - i) s) (h.inside (n - r - 1 - i) s)
        ∙ cond-true (eqb (backwards i) (backwards i)) 1 0 (eq-eqb (backwards i) (backwards i) refl);
    zero = λ i l lt below ne. let s : n - r - 1 - l < n - r = omega arith in
        free_entry (backwards i) (backwards l) (h.nowhere (n - r - 1 - l) s) (h.inside (n - r - 1 - l) s)
        ∙ cond-false (eqb (backwards l) (backwards i)) 1 0 (ne_eqb (backwards l) (backwards i)
        (⊎_elim (λ less. omega (arith, scanned_is_free.falling i l less below)) (λ ge. omega (arith, scanned_is_free.falling l i (let o : l < i = omega arith in o) lt)) (cases_lt i l)));
    minus = λ i a lt below. lead_entry (backwards i) (lead a) a (h.placed a below) below (R.inside a below);
  }
