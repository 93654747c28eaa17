-- A loop that writes a row of a flat buffer.
use Rattle.std.proofs.Common.{◌≡◌, ◌≢◌, ℕ, zero, suc, ◌+◌, ◌*◌, ◌/◌, ◌%◌, ◌^◌, ◌<◌, ◌≤◌, List, length, get_or, set, take, drop, ◌-◌, ◌++◌, cond, ltb, refl, sym, ap, ◌∙◌, arith, rules, ⊎_elim, add-one}
use Rattle.std.proofs.lemmas.List.{places, get_or_append_left, get_or-append_right, length-take, length-drop, get_or-take, get_or-drop, get_or-set_same, get_or-set_other, get_or_past}
use Rattle.std.proofs.lemmas.Nat.{mul-add-lt, same_from_place, mul-le, div_below, mod_below}
use Rattle.std.proofs.Math.Nat.{mod-eq_of_lt, add-mul-mod_self_right, mul-zero, div-add-mod'}
use Rattle.std.proofs.lemmas.Bool.{cases_eq, cases_lt, cond_below, cond_above}
use borrow.Rule.Slice.PartMut.{put_mid}
use Rattle.cap_matrix.specs.Grid.{total}
use Rattle.cap_matrix.specs.Buffer.{IsRowSoFar, IsFlat}

pub row_so_far_start : (m : ℕ) (first : List ℕ) (t : ℕ) (f : ℕ → ℕ) → IsRowSoFar m first first t 0 f
row_so_far_start m first t f = record {
  done = λ q lt. absurd (omega arith);
  later = λ q lt below. refl;
  others = λ i q below ne. refl;
}

pub row_so_far_more : (m : ℕ) (first now : List ℕ) (t c n v : ℕ) (f : ℕ → ℕ) → IsRowSoFar m first now t c f
    → length now ≡ n * m → t < n → c < m → v ≡ f c → IsRowSoFar m first (set now (t * m + c) v) t (c + 1) f
row_so_far_more m first now t c n v f h long tn cm e =
    let place : t * m + c < length now = omega (arith, mul-add-lt t m c n tn cm) in
    record {
      done = λ q lt. ⊎_elim
          (λ same. ap (λ y. get_or (set now (t * m + c) v) (t * m + y) 0) same ∙ get_or-set_same now (t * m + c) v 0 place ∙ e ∙ ap f (sym same))
          (λ ne. get_or-set_other now (t * m + c) (t * m + q) v 0 (λ x. ne (let s : q ≡ c = omega arith in s)) ∙ h.done q (omega arith))
          (cases_eq q c);
      later = λ q lt below. get_or-set_other now (t * m + c) (t * m + q) v 0 (λ x. let s : q ≡ c = omega arith in omega arith) ∙ h.later q (omega arith) below;
      others = λ i q below ne. get_or-set_other now (t * m + c) (i * m + q) v 0 (λ x. ne (same_from_place i q t c m below cm x).0) ∙ h.others i q below ne;
    }

pub total-le : (n b : ℕ) (f : ℕ → ℕ) → ((i : ℕ) → i < n → f i ≤ b) → total n f ≤ n * b
total-le zero b f h = omega arith
total-le (suc n) b f h =
    let e = total-le n b f (λ i lt. h i (omega arith)) in
    let d : f n ≤ b = h n (omega arith) in
    omega arith

-- sums of products of small numbers stay far below 2 ^ 32
pub sum_room : (n k : ℕ) (x y : ℕ → ℕ) → k < n → n ≤ 2048 → ((i : ℕ) → x i ≤ 250) → ((i : ℕ) → y i ≤ 250)
    → total k (λ i. x i * y i) + x k * y k < 2 ^ 32
sum_room n k x y lt short hx hy =
    let e = total-le k 62500 (λ i. x i * y i) (λ i below. mul-le (x i) (y i) 250 250 (hx i) (hy i)) in
    let d : x k * y k ≤ 62500 = mul-le (x k) (y k) 250 250 (hx k) (hy k) in
    omega arith

pub total-more : (k : ℕ) (f : ℕ → ℕ) → total (k + 1) f ≡ total k f + f k
total-more k f = ap (λ n. total n f) (add-one k)

-- what holds of each row and column holds of each place
pub by_places : (p n m : ℕ) (cells : List ℕ) → ((i j : ℕ) → i < n → j < m → get_or cells (i * m + j) 0 < p) → (k : ℕ) → k < n * m → get_or cells k 0 < p
by_places p n m cells h k lt =
    ⊎_elim (λ z. absurd (let e : n * m ≡ 0 = ap (λ y. n * y) z ∙ mul-zero n in omega arith))
    (λ pos. let e : k / m * m + k % m ≡ k = div-add-mod' k m in
    let x = h (k / m) (k % m) (div_below k m n (let y : 0 < m = omega arith in y) lt) (mod_below k m (let y : 0 < m = omega arith in y)) in
    let d = ap (λ y. get_or cells y 0) e in omega arith)
    (cases_eq m 0)

pub flat_small : (p n m : ℕ) (cells : List ℕ) → IsFlat p n m cells → p ≤ 251 → (k : ℕ) → get_or cells k 0 ≤ 250
flat_small p n m cells h high k =
    ⊎_elim (λ lt. let x = h.residues k lt in omega arith)
    (λ ge. let x = get_or_past cells k 0 (let l = h.cells_length in omega arith) in omega arith)
    (cases_lt k (n * m))

-- the first t rows of a buffer with m columns have the entries that f gives
pub record AreRows (m t : ℕ) (now : List ℕ) (f : ℕ → ℕ → ℕ) : Type 0 where
  pub at : (i j : ℕ) → i < t → j < m → get_or now (i * m + j) 0 ≡ f i j

pub no_rows : (m : ℕ) (now : List ℕ) (f : ℕ → ℕ → ℕ) → AreRows m 0 now f
no_rows m now f = record { at = λ i j lt below. absurd (omega arith) }

-- what a buffer holds in a part that was written, and before it
pub put_mid-in : (a k : ℕ) (xs ys : List ℕ) (j : ℕ) → a ≤ length xs → j < length ys → get_or (put_mid a k xs ys) (a + j) 0 ≡ get_or ys j 0
put_mid-in a k xs ys j h lt = search (rules, places)

pub put_mid-before : (a k : ℕ) (xs ys : List ℕ) (q : ℕ) → a ≤ length xs → q < a → get_or (put_mid a k xs ys) q 0 ≡ get_or xs q 0
put_mid-before a k xs ys q h lt = search (rules, places)

-- one more row is written
pub rows_more : (m t n k : ℕ) (now row : List ℕ) (f : ℕ → ℕ → ℕ) → AreRows m t now f → length now ≡ n * m → t < n → length row ≡ m
    → ((j : ℕ) → j < m → get_or row j 0 ≡ f t j) → AreRows m (t + 1) (put_mid (t * m) k now row) f
rows_more m t n k now row f h long tn width here = record {
  at = λ i j lt below. ⊎_elim
      (λ same. ap (λ y. get_or (put_mid (t * m) k now row) (y * m + j) 0) same
      ∙ put_mid-in (t * m) k now row j start (omega arith) ∙ here j below ∙ sym (ap (λ y. f y j) same))
      (λ other. put_mid-before (t * m) k now row (i * m + j) start (place i j other lt below) ∙ h.at i j (omega arith) below)
      (cases_eq i t);
} where
  start : t * m ≤ length now
  start = let x = mul-le t m n m (omega arith) (omega arith) in omega arith

  place : (i j : ℕ) → i ≢ t → i < t + 1 → j < m → i * m + j < t * m
  place i j other lt below = let x = mul-add-lt i m j t (omega arith) below in omega arith

-- what a part of a list holds
pub part-at : (xs : List ℕ) (a e j : ℕ) → j < e - a → get_or (take (e - a) (drop a xs)) j 0 ≡ get_or xs (a + j) 0
part-at xs a e j lt = get_or-take (e - a) (drop a xs) j 0 lt ∙ get_or-drop a xs j 0

-- the residue of the sum of two residues
pub sum_kept : (p s : ℕ) → s < p → s ≡ s % p
sum_kept p s lt = sym (mod-eq_of_lt lt)

pub sum_reduced : (p s : ℕ) → p ≤ s → s < p + p → s - p ≡ s % p
sum_reduced p s le lt =
    let back : s - p + 1 * p ≡ s = omega arith in
    sym (ap (λ y. y % p) (sym back) ∙ add-mul-mod_self_right (s - p) 1 p ∙ mod-eq_of_lt (omega arith))

-- one more block of rows is written
pub blocks_more : (w rows t n k : ℕ) (now part : List ℕ) (f : ℕ → ℕ → ℕ) → AreRows w (t * rows) now f → length now ≡ n * (rows * w) → t < n
    → length part ≡ rows * w → ((r j : ℕ) → r < rows → j < w → get_or part (r * w + j) 0 ≡ f (t * rows + r) j)
    → AreRows w ((t + 1) * rows) (put_mid (t * (rows * w)) k now part) f
blocks_more w rows t n k now part f h long tn width here = record {
  at = λ i j lt below. ⊎_elim
      (λ early. put_mid-before (t * (rows * w)) k now part (i * w + j) start (before i j early below) ∙ h.at i j early below)
      (λ late.
      let r = i - t * rows in
      let row : t * rows + r ≡ i = omega arith in
      let r_below : r < rows = omega arith in
      let place : t * (rows * w) + (r * w + j) ≡ i * w + j = omega (arith, ap (λ y. y * w) row) in
      ap (λ y. get_or (put_mid (t * (rows * w)) k now part) y 0) (sym place)
      ∙ put_mid-in (t * (rows * w)) k now part (r * w + j) start (omega (arith, mul-add-lt r w j rows r_below below))
      ∙ here r j r_below below ∙ ap (λ y. f y j) row)
      (cases_lt i (t * rows));
} where
  start : t * (rows * w) ≤ length now
  start = let x = mul-le t (rows * w) n (rows * w) (omega arith) (omega arith) in omega arith

  before : (i j : ℕ) → i < t * rows → j < w → i * w + j < t * (rows * w)
  before i j early below = let x = mul-add-lt i w j (t * rows) early below in omega arith

-- what two joined parts hold
pub joined-at : (xs ys : List ℕ) (i left right j : ℕ) → i * left + left ≤ length xs → j < left + right
    → get_or (take (i * left + left - i * left) (drop (i * left) xs) ++ take (i * right + right - i * right) (drop (i * right) ys)) j 0
    ≡ cond (ltb j left) (get_or xs (i * left + j) 0) (get_or ys (i * right + (j - left)) 0)
joined-at xs ys i left right j fits lt =
    let first = take (i * left + left - i * left) (drop (i * left) xs) in
    let second = take (i * right + right - i * right) (drop (i * right) ys) in
    let long : length first ≡ left = omega (arith, length-take (i * left + left - i * left) (drop (i * left) xs), length-drop (i * left) xs) in
    ⊎_elim
    (λ below. get_or_append_left first second 0 j (omega arith) ∙ part-at xs (i * left) (i * left + left) j (omega arith)
    ∙ cond_below j left (get_or xs (i * left + j) 0) (get_or ys (i * right + (j - left)) 0) below)
    (λ above. cond_above j left (get_or xs (i * left + j) 0) (get_or ys (i * right + (j - left)) 0) (get_or (first ++ second) j 0) above
    (get_or-append_right first second left j 0 long above ∙ part-at ys (i * right) (i * right + right) (j - left) (omega arith)))
    (cases_lt j left)

-- a place in some rows shows that they have columns
pub some_below : (k n m : ℕ) → k < n * m → 0 < m
some_below k n m lt = ⊎_elim (λ z. absurd (let e : n * m ≡ 0 = ap (λ y. n * y) z ∙ mul-zero n in omega arith)) (λ ne. omega arith) (cases_eq m 0)
