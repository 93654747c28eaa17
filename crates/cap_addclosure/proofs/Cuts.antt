-- Rows cut into stretches of given widths.
use Rattle.std.proofs.Common.{◌≡◌, ◌≢◌, ℕ, zero, suc, ◌+◌, ◌-◌, ◌<◌, ◌≤◌, List, [], ◌∷◌, ◌++◌, length, get_or, take, drop, refl, sym, ap, ◌∙◌, arith, ⊎_elim, length-drop}
use Rattle.std.proofs.lemmas.Bool.{cases_eq}
use Rattle.std.proofs.lemmas.List.{ext_get_or, get_or-take, get_or-drop, length-take-le}
use Rattle.std.proofs.Math.Seq.{take-length}
use Rattle.cap_matrix.specs.Grid.{row_by}
use Rattle.cap_matrix.proofs.Rows.{length-row_by, row_by-at, row_by_is, row_by-same}
use Rattle.cap_matrix.proofs.Entries.{delta, delta-same, delta-other}
use Rattle.cap_homlaw.specs.Rows.{zero_row, unit_row}
use Rattle.cap_add_laws.specs.Closure.{sum_list, cut_by}

drop-drop : (a b : ℕ) (row : List ℕ) → drop b (drop a row) ≡ drop (a + b) row
drop-drop a b row = ext_get_or 0 (drop b (drop a row)) (drop (a + b) row)
    (length-drop b (drop a row) ∙ ap (λ n. n - b) (length-drop a row) ∙ (let e : length row - a - b ≡ length row - (a + b) = omega arith in e) ∙ sym (length-drop (a + b) row))
    (λ k lt. get_or-drop b (drop a row) k 0 ∙ get_or-drop a row (b + k) 0 ∙ ap (λ i. get_or row i 0) (let e : a + (b + k) ≡ a + b + k = omega arith in e) ∙ sym (get_or-drop (a + b) row k 0))

-- one stretch more
pub cut-next : (ws : List ℕ) (k : ℕ) (row : List ℕ) → k < length ws → cut_by (take (k + 1) ws) row ≡ cut_by (take k ws) row ++ take (get_or ws k 0) (drop (sum_list (take k ws)) row) ∷ []
cut-next ws k row lt = ap (λ n. cut_by (take n ws) row) (let e : k + 1 ≡ suc k = omega arith in e) ∙ next ws k row lt
  where
    next : (ws : List ℕ) (k : ℕ) (row : List ℕ) → k < length ws → cut_by (take (suc k) ws) row ≡ cut_by (take k ws) row ++ take (get_or ws k 0) (drop (sum_list (take k ws)) row) ∷ []
    next [] k row lt = absurd (omega (arith, lt))
    next (w ∷ ws) zero row lt = refl
    next (w ∷ ws) (suc k) row lt =
        ap (λ z. take w row ∷ z) (next ws k (drop w row) (omega (arith, lt)))
        ∙ ap (λ z. take w row ∷ (cut_by (take k ws) (drop w row) ++ take (get_or ws k 0) z ∷ [])) (drop-drop w (sum_list (take k ws)) row)

pub cut-all : (ws row : List ℕ) → cut_by (take (length ws) ws) row ≡ cut_by ws row
cut-all ws row = ap (λ z. cut_by z row) (take-length ws)

-- the widths before one, and it, are within the whole
pub sum-within : (ws : List ℕ) (k : ℕ) → k < length ws → sum_list (take k ws) + get_or ws k 0 ≤ sum_list ws
sum-within [] k lt = absurd (omega (arith, lt))
sum-within (w ∷ ws) zero lt = omega arith
sum-within (w ∷ ws) (suc k) lt = omega (arith, sum-within ws k (omega (arith, lt)))

take-row_by : (w s : ℕ) (F : ℕ → ℕ) → take w (row_by (w + s) F) ≡ row_by w F
take-row_by w s F = row_by_is w F (take w (row_by (w + s) F)) (length-take-le w (row_by (w + s) F) (omega (arith, length-row_by (w + s) F)))
    (λ i lt. get_or-take w (row_by (w + s) F) i 0 lt ∙ row_by-at (w + s) F i (omega (arith, lt)))

drop-row_by : (w s : ℕ) (F : ℕ → ℕ) → drop w (row_by (w + s) F) ≡ row_by s (λ k. F (w + k))
drop-row_by w s F = row_by_is s (λ k. F (w + k)) (drop w (row_by (w + s) F)) (length-drop w (row_by (w + s) F) ∙ ap (λ n. n - w) (length-row_by (w + s) F) ∙ (let e : w + s - w ≡ s = omega arith in e))
    (λ i lt. get_or-drop w (row_by (w + s) F) i 0 ∙ row_by-at (w + s) F (w + i) (omega (arith, lt)))

delta-shift : (w k i : ℕ) → delta (w + i) (w + k) ≡ delta i k
delta-shift w k i = ⊎_elim
    (λ (e : i ≡ k). ap (λ z. delta (w + z) (w + k)) e ∙ delta-same (w + k) ∙ sym (ap (λ z. delta z k) e ∙ delta-same k))
    (λ (ne : i ≢ k). delta-other (w + i) (w + k) (λ s. ne (omega (arith, s))) ∙ sym (delta-other i k ne))
    (cases_eq i k)

-- the first stretch of a unit row, where its 1 is there or behind it, and what is left
first-here : (w s t : ℕ) → take w (unit_row (w + s) t) ≡ unit_row w t
first-here w s t = take-row_by w s (λ i. delta i t)

rest-here : (w s t : ℕ) → t < w → drop w (unit_row (w + s) t) ≡ zero_row s
rest-here w s t lt = drop-row_by w s (λ i. delta i t) ∙ row_by-same s (λ k. delta (w + k) t) (λ k. 0) (λ k h. delta-other (w + k) t (λ e. absurd (omega (arith, e, lt))))

first-behind : (w s k : ℕ) → take w (unit_row (w + s) (w + k)) ≡ zero_row w
first-behind w s k = take-row_by w s (λ i. delta i (w + k)) ∙ row_by-same w (λ i. delta i (w + k)) (λ i. 0) (λ i lt. delta-other i (w + k) (λ e. absurd (omega (arith, e, lt))))

rest-behind : (w s k : ℕ) → drop w (unit_row (w + s) (w + k)) ≡ unit_row s k
rest-behind w s k = drop-row_by w s (λ i. delta i (w + k)) ∙ row_by-same s (λ i. delta (w + i) (w + k)) (λ i. delta i k) (λ i lt. delta-shift w k i)

cut-zero : (ws : List ℕ) (m : ℕ) → m < length ws → get_or (cut_by ws (zero_row (sum_list ws))) m [] ≡ zero_row (get_or ws m 0)
cut-zero [] m lt = absurd (omega (arith, lt))
cut-zero (w ∷ ws) zero lt = take-row_by w (sum_list ws) (λ k. 0)
cut-zero (w ∷ ws) (suc m) lt = ap (λ z. get_or (cut_by ws z) m []) (drop-row_by w (sum_list ws) (λ k. 0)) ∙ cut-zero ws m (omega (arith, lt))

-- the stretch that has the 1 of a unit row
pub cut-unit-at : (ws : List ℕ) (q t : ℕ) → q < length ws → t < get_or ws q 0 → get_or (cut_by ws (unit_row (sum_list ws) (sum_list (take q ws) + t))) q [] ≡ unit_row (get_or ws q 0) t
cut-unit-at [] q t lt h = absurd (omega (arith, lt))
cut-unit-at (w ∷ ws) zero t lt h = ap (λ k. take w (unit_row (w + sum_list ws) k)) (let e : 0 + t ≡ t = omega arith in e) ∙ first-here w (sum_list ws) t
cut-unit-at (w ∷ ws) (suc q) t lt h =
    ap (λ k. get_or (cut_by ws (drop w (unit_row (w + sum_list ws) k))) q []) (let e : w + sum_list (take q ws) + t ≡ w + (sum_list (take q ws) + t) = omega arith in e)
    ∙ ap (λ z. get_or (cut_by ws z) q []) (rest-behind w (sum_list ws) (sum_list (take q ws) + t))
    ∙ cut-unit-at ws q t (omega (arith, lt)) h

-- and the others
pub cut-unit-off : (ws : List ℕ) (q t m : ℕ) → q < length ws → t < get_or ws q 0 → m < length ws → m ≢ q → get_or (cut_by ws (unit_row (sum_list ws) (sum_list (take q ws) + t))) m [] ≡ zero_row (get_or ws m 0)
cut-unit-off [] q t m lt h hm ne = absurd (omega (arith, lt))
cut-unit-off (w ∷ ws) zero t zero lt h hm ne = absurd (ne refl)
cut-unit-off (w ∷ ws) zero t (suc m) lt h hm ne =
    ap (λ k. get_or (cut_by ws (drop w (unit_row (w + sum_list ws) k))) m []) (let e : 0 + t ≡ t = omega arith in e)
    ∙ ap (λ z. get_or (cut_by ws z) m []) (rest-here w (sum_list ws) t h)
    ∙ cut-zero ws m (omega (arith, hm))
cut-unit-off (w ∷ ws) (suc q) t zero lt h hm ne =
    ap (λ k. take w (unit_row (w + sum_list ws) k)) (let e : w + sum_list (take q ws) + t ≡ w + (sum_list (take q ws) + t) = omega arith in e)
    ∙ first-behind w (sum_list ws) (sum_list (take q ws) + t)
cut-unit-off (w ∷ ws) (suc q) t (suc m) lt h hm ne =
    ap (λ k. get_or (cut_by ws (drop w (unit_row (w + sum_list ws) k))) m []) (let e : w + sum_list (take q ws) + t ≡ w + (sum_list (take q ws) + t) = omega arith in e)
    ∙ ap (λ z. get_or (cut_by ws z) m []) (rest-behind w (sum_list ws) (sum_list (take q ws) + t))
    ∙ cut-unit-off ws q t m (omega (arith, lt)) h (omega (arith, hm)) (λ e. ne (omega (arith, e)))
