-- The place of a basis element in its Hom, and products of basis elements.
use Rattle.std.proofs.Common.{◌≡◌, ◌≢◌, ℕ, zero, suc, ◌+◌, ◌*◌, ◌%◌, ◌<◌, ◌≤◌, refl, sym, ap, ◌∙◌, Bool, true, false, ◌&&◌, cond, eqb, List, ◌∷◌, filter, length, get_or, arith, ⊎_elim, ◌⊎◌, inl, inr, ◌==◌, if◌then◌else◌}
use Rattle.std.specs.List.{range_with_len}
use Rattle.std.proofs.Math.Nat.{mod-eq_of_lt, zero-mul, mul-zero, one-mul}
use Rattle.std.proofs.lemmas.List.FromFn.{get_or-map-range_with_len, length-map-range_with_len}
use Rattle.std.proofs.lemmas.List.{ext_get_or}
use Rattle.std.proofs.lemmas.Bool.{cases_eq, eq-eqb, ne_eqb, cond-true, cond-false, false≢true}
use Rattle.std.specs.Cmp.Derive.{both_true}
use Rattle.cap_laws.specs.Table.{TableData, IsTable, total_below, row_below, ends_of, hom_of, width_of, element_of, BasisProducts}

-- only one term counts
pub total-zeros : (n : ℕ) (f : ℕ → ℕ) → ((i : ℕ) → i < n → f i ≡ 0) → total_below n f ≡ 0
total-zeros zero f h = refl
total-zeros (suc n) f h =
    let e = total-zeros n f (λ i lt. h i (omega arith)) in
    let d : f n ≡ 0 = h n (omega arith) in
    omega (arith, e, d)

pub total-one : (n k : ℕ) (f : ℕ → ℕ) → k < n → ((i : ℕ) → i < n → i ≢ k → f i ≡ 0) → total_below n f ≡ f k
total-one zero k f lt h = absurd (omega (arith, lt))
total-one (suc n) k f lt h = ⊎_elim
    (λ (same : n ≡ k).
    let none : total_below n f ≡ 0 = total-zeros n f (λ i below. h i (omega arith) (omega arith)) in
    let last : f n ≡ f k = ap f same in
    omega (arith, none, last))
    (λ (other : n ≢ k).
    let rest : total_below n f ≡ f k = total-one n k f (omega arith) (λ i below apart. h i (omega arith) apart) in
    let last : f n ≡ 0 = h n (omega arith) other in
    omega (arith, rest, last))
    (cases_eq n k)

-- x stands in the list, at one place alone
pub record Place (xs : List ℕ) (x : ℕ) : Type 0 where
  pub at : ℕ
  pub below : at < length xs
  pub here : get_or xs at 0 ≡ x
  pub only : (l : ℕ) → l < length xs → get_or xs l 0 ≡ x → l ≡ at

-- all that a filter of a, a + 1, .. keeps is at least a
above-cons : (b : Bool) (a : ℕ) (xs : List ℕ) → ((l : ℕ) → l < length xs → a + 1 ≤ get_or xs l 0) → (l : ℕ) → l < length (cond b (a ∷ xs) xs) → a ≤ get_or (cond b (a ∷ xs) xs) l 0
above-cons true a xs h zero lt = omega arith
above-cons true a xs h (suc l) lt = omega (arith, h l (omega (arith, lt)))
above-cons false a xs h l lt = omega (arith, h l lt)

kept-above : (test : ℕ → Bool) (n a l : ℕ) → l < length (filter test (range_with_len a n)) → a ≤ get_or (filter test (range_with_len a n)) l 0
kept-above test zero a l h = absurd (omega (arith, h))
kept-above test (suc n) a l h = above-cons (test a) a (filter test (range_with_len (a + 1) n)) (λ m lt. kept-above test n (a + 1) m lt) l h

first-place : (a i : ℕ) (xs : List ℕ) → ((l : ℕ) → l < length xs → a + 1 ≤ get_or xs l 0) → a ≡ i → Place (a ∷ xs) i
first-place a i xs h e = record { at = 0; below = omega arith; here = e; only = only-first }
  where
    only-first : (l : ℕ) → l < length (a ∷ xs) → get_or (a ∷ xs) l 0 ≡ i → l ≡ 0
    only-first zero lt g = refl
    only-first (suc l) lt g = absurd (omega (arith, h l (omega (arith, lt)), g, e))

later-place : (a i : ℕ) (xs : List ℕ) → a ≢ i → Place xs i → Place (a ∷ xs) i
later-place a i xs apart p = record { at = suc p.at; below = omega (arith, p.below); here = p.here; only = only-later }
  where
    only-later : (l : ℕ) → l < length (a ∷ xs) → get_or (a ∷ xs) l 0 ≡ i → l ≡ suc p.at
    only-later zero lt g = absurd (apart g)
    only-later (suc l) lt g = ap suc (p.only l (omega (arith, lt)) g)

place-cons : (b : Bool) (a i : ℕ) (xs : List ℕ) → ((l : ℕ) → l < length xs → a + 1 ≤ get_or xs l 0) → (a ≡ i → b ≡ true) → (a ≢ i → Place xs i) → Place (cond b (a ∷ xs) xs) i
place-cons true a i xs h t p = ⊎_elim (λ (e : a ≡ i). first-place a i xs h e) (λ (e : a ≢ i). later-place a i xs e (p e)) (cases_eq a i)
place-cons false a i xs h t p = p (λ e. absurd (false≢true (t e)))

-- and each number that passes stands there at one place
place-of : (test : ℕ → Bool) (n a i : ℕ) → a ≤ i → i < a + n → test i ≡ true → Place (filter test (range_with_len a n)) i
place-of test zero a i low high t = absurd (omega (arith, low, high))
place-of test (suc n) a i low high t = place-cons (test a) a i (filter test (range_with_len (a + 1) n)) (λ l lt. kept-above test n (a + 1) l lt)
    (λ e. ap test e ∙ t)
    (λ apart. place-of test n (a + 1) i (omega (arith, low, apart)) (omega (arith, high)) t)

row-at : (n : ℕ) (f : ℕ → ℕ) (k : ℕ) → k < n → get_or (row_below n f) k 0 ≡ f k
row-at n f k lt = get_or-map-range_with_len f 0 n k k 0 lt (omega arith)

-- a row by a formula that gives the entries of a list is that list
row-is : (n : ℕ) (f : ℕ → ℕ) (xs : List ℕ) → length xs ≡ n → ((k : ℕ) → k < length xs → f k ≡ get_or xs k 0) → row_below n f ≡ xs
row-is n f xs long h = ext_get_or 0 (row_below n f) xs (length-map-range_with_len f 0 n ∙ sym long)
    (λ k lt. let below : k < n = omega (arith, lt, length-map-range_with_len f 0 n) in row-at n f k below ∙ h k (omega (arith, below, long)))

zero-term : (x y z : ℕ) → (x ≡ 0) ⊎ (y ≡ 0) → x * y * z ≡ 0
zero-term x y z (inl e) = ap (λ n. n * y * z) e ∙ ap (λ n. n * z) (zero-mul y) ∙ zero-mul z
zero-term x y z (inr e) = ap (λ n. x * n * z) e ∙ ap (λ n. n * z) (mul-zero x) ∙ zero-mul z

full-term : (x y z : ℕ) → x ≡ 1 → y ≡ 1 → x * y * z ≡ z
full-term x y z e d = ap (λ n. n * y * z) e ∙ ap (λ n. 1 * n * z) d ∙ one-mul z

module _ (T : TableData) where
  -- a basis element stands in the basis of its own Hom, at one place
  pub place-in-hom : (b : ℕ) → b < length T.basis → Place (hom_of T (ends_of T b).0 (ends_of T b).1) b
  place-in-hom b lt = place-of (λ c. eqb (ends_of T c).0 (ends_of T b).0 && eqb (ends_of T c).1 (ends_of T b).1) (length T.basis) 0 b (omega arith) (omega (arith, lt))
      (both_true (eq-eqb (ends_of T b).0 (ends_of T b).0 refl) (eq-eqb (ends_of T b).1 (ends_of T b).1 refl))

  -- its coefficients are 1 at that place, and 0 elsewhere
  pub own-coefficient : (b k : ℕ) (lt : b < length T.basis) → k ≡ (place-in-hom b lt).at → get_or (element_of T b).coefficients k 0 ≡ 1
  own-coefficient b k lt e =
      let P = place-in-hom b lt in
      let below : k < width_of T (ends_of T b).0 (ends_of T b).1 = omega (arith, P.below, e) in
      let found : get_or (hom_of T (ends_of T b).0 (ends_of T b).1) k 0 ≡ b = ap (λ l. get_or (hom_of T (ends_of T b).0 (ends_of T b).1) l 0) e ∙ P.here in
      row-at (width_of T (ends_of T b).0 (ends_of T b).1) (λ l. if get_or (hom_of T (ends_of T b).0 (ends_of T b).1) l 0 == b then 1 else 0) k below
      ∙ cond-true (eqb (get_or (hom_of T (ends_of T b).0 (ends_of T b).1) k 0) b) 1 0 (eq-eqb (get_or (hom_of T (ends_of T b).0 (ends_of T b).1) k 0) b found)

  pub other-coefficient : (b k : ℕ) (lt : b < length T.basis) → k < width_of T (ends_of T b).0 (ends_of T b).1 → k ≢ (place-in-hom b lt).at → get_or (element_of T b).coefficients k 0 ≡ 0
  other-coefficient b k lt below apart =
      let P = place-in-hom b lt in
      row-at (width_of T (ends_of T b).0 (ends_of T b).1) (λ l. if get_or (hom_of T (ends_of T b).0 (ends_of T b).1) l 0 == b then 1 else 0) k below
      ∙ cond-false (eqb (get_or (hom_of T (ends_of T b).0 (ends_of T b).1) k 0) b) 1 0 (ne_eqb (get_or (hom_of T (ends_of T b).0 (ends_of T b).1) k 0) b (λ e. apart (P.only k below e)))

  -- so a sum over two basis elements has one term
  one-term : (i j k : ℕ) → i < length T.basis → j < length T.basis
      → total_below (width_of T (ends_of T i).0 (ends_of T i).1) (λ a. total_below (width_of T (ends_of T j).0 (ends_of T j).1) (λ c.
      get_or (element_of T i).coefficients a 0 * get_or (element_of T j).coefficients c 0 * get_or (T.product (get_or (hom_of T (ends_of T i).0 (ends_of T i).1) a 0) (get_or (hom_of T (ends_of T j).0 (ends_of T j).1) c 0)) k 0))
      ≡ get_or (T.product i j) k 0
  one-term i j k hi hj =
      let P = place-in-hom i hi in
      let Q = place-in-hom j hj in
      let first = hom_of T (ends_of T i).0 (ends_of T i).1 in
      let second = hom_of T (ends_of T j).0 (ends_of T j).1 in
      let f = (element_of T i).coefficients in
      let g = (element_of T j).coefficients in
      let term : ℕ → ℕ → ℕ = λ a c. get_or f a 0 * get_or g c 0 * get_or (T.product (get_or first a 0) (get_or second c 0)) k 0 in
      total-one (length first) P.at (λ a. total_below (length second) (term a)) P.below
      (λ a below apart. total-zeros (length second) (term a) (λ c lt. zero-term (get_or f a 0) (get_or g c 0) (get_or (T.product (get_or first a 0) (get_or second c 0)) k 0) (inl (other-coefficient i a hi below apart))))
      ∙ total-one (length second) Q.at (term P.at) Q.below
      (λ c below apart. zero-term (get_or f P.at 0) (get_or g c 0) (get_or (T.product (get_or first P.at 0) (get_or second c 0)) k 0) (inr (other-coefficient j c hj below apart)))
      ∙ full-term (get_or f P.at 0) (get_or g Q.at 0) (get_or (T.product (get_or first P.at 0) (get_or second Q.at 0)) k 0) (own-coefficient i P.at hi refl) (own-coefficient j Q.at hj refl)
      ∙ ap (λ x. get_or (T.product x (get_or second Q.at 0)) k 0) P.here
      ∙ ap (λ y. get_or (T.product i y) k 0) Q.here

  pub element-products : IsTable T → BasisProducts T
  element-products V = record {
    law = λ i j hi hj meet.
        let R = V.products i j hi hj meet in
        let w = width_of T (ends_of T i).0 (ends_of T j).1 in
        let K : ℕ → ℕ = λ k. total_below (width_of T (ends_of T i).0 (ends_of T i).1) (λ a. total_below (width_of T (ends_of T j).0 (ends_of T j).1) (λ c.
        get_or (element_of T i).coefficients a 0 * get_or (element_of T j).coefficients c 0 * get_or (T.product (get_or (hom_of T (ends_of T i).0 (ends_of T i).1) a 0) (get_or (hom_of T (ends_of T j).0 (ends_of T j).1) c 0)) k 0)) % T.prime in
        ap (λ xs. record { from = (ends_of T i).0; to = (ends_of T j).1; coefficients = xs })
        (row-is w K (T.product i j) R.long (λ k lt. ap (λ n. n % T.prime) (one-term i j k hi hj) ∙ mod-eq_of_lt (R.residues k lt)));
  }
