-- Rows one after another, and a row cut into stretches of given widths.
use Rattle.std.proofs.Common.{◌≡◌, ℕ, zero, suc, ◌+◌, ◌-◌, ◌*◌, ◌%◌, ◌<◌, ◌≤◌, List, [], ◌∷◌, ◌++◌, length, get_or, take, drop, refl, sym, ap, ◌∙◌, arith, ⊎_elim, length-append}
use Rattle.std.proofs.lemmas.List.{take-append-drop, get_or_append_left, get_or-append_right}
use Rattle.std.proofs.lemmas.Bool.{cases_lt}
use Rattle.cap_matrix.specs.Grid.{row_by}
use Rattle.cap_matrix.proofs.Rows.{length-row_by, row_by-at}
use Rattle.cap_homlaw.specs.Rows.{AreResidues, row_sum, row_scaled}
use Rattle.cap_homlaw.proofs.Rows.{row_ext}
use Rattle.cap_homlaw.proofs.Lists.{append-residues, take-residues, drop-residues, append-first, append-second}
use Rattle.cap_add_laws.specs.Closure.{sum_list, joined, cut_by}

-- rows of residues with these widths
pub data AreRows (p : ℕ) : List ℕ → List (List ℕ) → Type 0 where
  nil : AreRows p [] []
  cons : {w : ℕ} {x : List ℕ} {ws : List ℕ} {xs : List (List ℕ)} → AreResidues p w x → AreRows p ws xs → AreRows p (w ∷ ws) (x ∷ xs)

pub rows-from : (p : ℕ) (ws : List ℕ) (xs : List (List ℕ)) → length xs ≡ length ws → ((k : ℕ) → k < length ws → AreResidues p (get_or ws k 0) (get_or xs k [])) → AreRows p ws xs
rows-from p [] [] e h = nil
rows-from p [] (x ∷ xs) e h = absurd (omega (arith, e))
rows-from p (w ∷ ws) [] e h = absurd (omega (arith, e))
rows-from p (w ∷ ws) (x ∷ xs) e h = cons (h 0 (omega arith)) (rows-from p ws xs (omega (arith, e)) (λ k lt. h (suc k) (omega (arith, lt))))

pub rows-at : {p : ℕ} {ws : List ℕ} {xs : List (List ℕ)} → AreRows p ws xs → (k : ℕ) → k < length ws → AreResidues p (get_or ws k 0) (get_or xs k [])
rows-at nil k lt = absurd (omega (arith, lt))
rows-at (cons X h) zero lt = X
rows-at (cons X h) (suc k) lt = rows-at h k (omega (arith, lt))

pub rows-many : {p : ℕ} {ws : List ℕ} {xs : List (List ℕ)} → AreRows p ws xs → length xs ≡ length ws
rows-many nil = refl
rows-many (cons X h) = ap suc (rows-many h)

pub joined-residues : {p : ℕ} {ws : List ℕ} {xs : List (List ℕ)} → AreRows p ws xs → AreResidues p (sum_list ws) (joined xs)
joined-residues nil = record { long = refl; residues = λ k lt. absurd (omega (arith, lt)) }
joined-residues (cons X h) = append-residues X (joined-residues h)

pub cut-rows : (p : ℕ) (ws row : List ℕ) → AreResidues p (sum_list ws) row → AreRows p ws (cut_by ws row)
cut-rows p [] row R = nil
cut-rows p (w ∷ ws) row R = cons (take-residues w (sum_list ws) R) (cut-rows p ws (drop w row) (drop-residues w (sum_list ws) R))

no-entries : (xs : List ℕ) → length xs ≡ 0 → xs ≡ []
no-entries [] e = refl
no-entries (x ∷ xs) e = absurd (omega (arith, e))

pub joined-cut : (p : ℕ) (ws row : List ℕ) → AreResidues p (sum_list ws) row → joined (cut_by ws row) ≡ row
joined-cut p [] row R = sym (no-entries row R.long)
joined-cut p (w ∷ ws) row R = ap (λ r. take w row ++ r) (joined-cut p ws (drop w row) (drop-residues w (sum_list ws) R)) ∙ take-append-drop w row

-- rows of given widths are fixed by the whole
pub joined-same : {p : ℕ} {ws : List ℕ} {xs ys : List (List ℕ)} → AreRows p ws xs → AreRows p ws ys → joined xs ≡ joined ys → xs ≡ ys
joined-same nil nil e = refl
joined-same (cons {x = x} {xs = xs} X h) (cons {x = y} {xs = ys} Y k) e =
    ap (λ z. z ∷ xs) (append-first x (joined xs) y (joined ys) X.long Y.long e) ∙ ap (λ z. y ∷ z) (joined-same h k (append-second x (joined xs) y (joined ys) X.long Y.long e))

-- what is done coefficient by coefficient is done row by row
pub row-by-append : (m n : ℕ) (F : ℕ → ℕ) (x y : List ℕ) → x ≡ row_by m F → y ≡ row_by n (λ k. F (m + k)) → x ++ y ≡ row_by (m + n) F
row-by-append m n F x y e d =
    let lx : length x ≡ m = ap length e ∙ length-row_by m F in
    let ly : length y ≡ n = ap length d ∙ length-row_by n (λ k. F (m + k)) in
    row_ext (length-append x y ∙ ap (λ z. z + length y) lx ∙ ap (λ z. m + z) ly) (length-row_by (m + n) F)
    (λ k lt. ⊎_elim
    (λ (low : k < m). get_or_append_left x y 0 k (omega (arith, low, lx)) ∙ ap (λ z. get_or z k 0) e ∙ row_by-at m F k low ∙ sym (row_by-at (m + n) F k lt))
    (λ (high : m ≤ k).
    let s : m + (k - m) ≡ k = omega (arith, high) in
    get_or-append_right x y m k 0 lx high ∙ ap (λ z. get_or z (k - m) 0) d ∙ row_by-at n (λ k. F (m + k)) (k - m) (omega (arith, high, lt)) ∙ ap F s ∙ sym (row_by-at (m + n) F k lt))
    (cases_lt k m))

pub joined-sum : {p : ℕ} {ws : List ℕ} {xs ys zs : List (List ℕ)} → AreRows p ws xs → AreRows p ws ys → AreRows p ws zs
    → ((k : ℕ) → k < length ws → get_or zs k [] ≡ row_sum p (get_or ws k 0) (get_or xs k []) (get_or ys k []))
    → joined zs ≡ row_sum p (sum_list ws) (joined xs) (joined ys)
joined-sum nil nil nil h = refl
joined-sum {p} (cons {w = w} {x = x} {ws = ws} {xs = xs} X H) (cons {x = y} {xs = ys} Y K) (cons {x = z} {xs = zs} Z M) h =
    let u = joined xs in
    let v = joined ys in
    let F = λ (k : ℕ). (get_or (x ++ u) k 0 + get_or (y ++ v) k 0) % p in
    row-by-append w (sum_list ws) F z (joined zs)
    (h 0 (omega arith) ∙ row-same w (λ k. (get_or x k 0 + get_or y k 0) % p) F
    (λ k lt. ap (λ s. (s + get_or y k 0) % p) (sym (get_or_append_left x u 0 k (omega (arith, lt, X.long)))) ∙ ap (λ s. (get_or (x ++ u) k 0 + s) % p) (sym (get_or_append_left y v 0 k (omega (arith, lt, Y.long))))))
    (joined-sum H K M (λ k lt. h (suc k) (omega (arith, lt))) ∙ row-same (sum_list ws) (λ k. (get_or u k 0 + get_or v k 0) % p) (λ k. F (w + k))
    (λ k lt. ap (λ s. (s + get_or v k 0) % p) (sym (right x u w k X.long)) ∙ ap (λ s. (get_or (x ++ u) (w + k) 0 + s) % p) (sym (right y v w k Y.long))))
  where
    row-same : (n : ℕ) (f g : ℕ → ℕ) → ((i : ℕ) → i < n → f i ≡ g i) → row_by n f ≡ row_by n g
    row-same n f g q = row_ext (length-row_by n f) (length-row_by n g) (λ i lt. row_by-at n f i lt ∙ q i lt ∙ sym (row_by-at n g i lt))

    right : (x u : List ℕ) (w k : ℕ) → length x ≡ w → get_or (x ++ u) (w + k) 0 ≡ get_or u k 0
    right x u w k l = get_or-append_right x u w (w + k) 0 l (omega arith) ∙ ap (λ i. get_or u i 0) (let e : w + k - w ≡ k = omega arith in e)

pub joined-scaled : {p : ℕ} {ws : List ℕ} {xs zs : List (List ℕ)} (c : ℕ) → AreRows p ws xs → AreRows p ws zs
    → ((k : ℕ) → k < length ws → get_or zs k [] ≡ row_scaled p (get_or ws k 0) c (get_or xs k []))
    → joined zs ≡ row_scaled p (sum_list ws) c (joined xs)
joined-scaled c nil nil h = refl
joined-scaled {p} c (cons {w = w} {x = x} {ws = ws} {xs = xs} X H) (cons {x = z} {xs = zs} Z M) h =
    let u = joined xs in
    let F = λ (k : ℕ). c * get_or (x ++ u) k 0 % p in
    row-by-append w (sum_list ws) F z (joined zs)
    (h 0 (omega arith) ∙ row-same w (λ k. c * get_or x k 0 % p) F (λ k lt. ap (λ s. c * s % p) (sym (get_or_append_left x u 0 k (omega (arith, lt, X.long))))))
    (joined-scaled c H M (λ k lt. h (suc k) (omega (arith, lt))) ∙ row-same (sum_list ws) (λ k. c * get_or u k 0 % p) (λ k. F (w + k)) (λ k lt. ap (λ s. c * s % p) (sym (right x u w k X.long))))
  where
    row-same : (n : ℕ) (f g : ℕ → ℕ) → ((i : ℕ) → i < n → f i ≡ g i) → row_by n f ≡ row_by n g
    row-same n f g q = row_ext (length-row_by n f) (length-row_by n g) (λ i lt. row_by-at n f i lt ∙ q i lt ∙ sym (row_by-at n g i lt))

    right : (x u : List ℕ) (w k : ℕ) → length x ≡ w → get_or (x ++ u) (w + k) 0 ≡ get_or u k 0
    right x u w k l = get_or-append_right x u w (w + k) 0 l (omega arith) ∙ ap (λ i. get_or u i 0) (let e : w + k - w ≡ k = omega arith in e)
