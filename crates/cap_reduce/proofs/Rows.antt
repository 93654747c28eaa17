-- Loops that exchange two rows of a flat buffer, and that clear a column.
use Rattle.std.proofs.Common.{◌≡◌, ◌≢◌, ℕ, ◌+◌, ◌-◌, ◌*◌, ◌%◌, ◌<◌, List, length, set, refl, sym, ap, ◌∙◌, arith, ⊎_elim}
use Rattle.std.proofs.lemmas.List.{length-set, get_or-set_same, get_or-set_other}
use Rattle.std.proofs.lemmas.Nat.{mul-add-lt, same_from_place}
use Rattle.std.proofs.Math.Nat.{add-mul-mod_self_left, mod-eq_of_lt}
use Rattle.cap_matrix.specs.Buffer.{IsRowSoFar}
use Rattle.std.proofs.lemmas.Bool.{cases_eq}
use Rattle.cap_reduce.specs.Flat.{cell, IsColumnSoFar, IsSwapSoFar}

-- what the first cells are already need not be written
pub row_so_far_from : (m : ℕ) (first : List ℕ) (t from : ℕ) (f : ℕ → ℕ) → ((q : ℕ) → q < from → cell first m t q ≡ f q) → IsRowSoFar m first first t from f
row_so_far_from m first t from f h = record {
  done = h;
  later = λ q le lt. refl;
  others = λ i q lt ne. refl;
}

pub swap_so_far_more : (m : ℕ) (first now : List ℕ) (a b c n : ℕ) → IsSwapSoFar m first now a b c → length now ≡ n * m → a < b → b < n → c < m
    → IsSwapSoFar m first (set (set now (a * m + c) (cell now m b c)) (b * m + c) (cell now m a c)) a b (c + 1)
swap_so_far_more m first now a b c n h long ab bn cm =
    let mid = set now (a * m + c) (cell now m b c) in
    let new = set mid (b * m + c) (cell now m a c) in
    let place_a : a * m + c < length now = omega (arith, mul-add-lt a m c n (let x : a < n = omega arith in x) cm) in
    let place_b : b * m + c < length mid = omega (arith, mul-add-lt b m c n bn cm, length-set now (a * m + c) (cell now m b c)) in
    let other : (i q : ℕ) → q < m → (i * m + q ≡ a * m + c → ⊥) → (i * m + q ≡ b * m + c → ⊥) → cell new m i q ≡ cell now m i q
    = λ i q lt na nb. get_or-set_other mid (b * m + c) (i * m + q) (cell now m a c) 0 nb
    ∙ get_or-set_other now (a * m + c) (i * m + q) (cell now m b c) 0 na in
    let col : (i k q : ℕ) → q < m → q ≢ c → i * m + q ≡ k * m + c → ⊥ = λ i k q lt ne x. ne (same_from_place i q k c m lt cm x).1 in
    record {
      upper = λ q lt. ⊎_elim
          (λ same. ap (λ y. cell new m a y) same
          ∙ get_or-set_other mid (b * m + c) (a * m + c) (cell now m a c) 0 (λ x. let s : a ≡ b = (same_from_place a c b c m cm cm x).0 in omega arith)
          ∙ get_or-set_same now (a * m + c) (cell now m b c) 0 place_a
          ∙ h.later b c (omega arith) cm ∙ ap (λ y. cell first m b y) (sym same))
          (λ ne. other a q (omega arith) (col a a q (omega arith) ne) (col a b q (omega arith) ne) ∙ h.upper q (omega arith)) (cases_eq q c);
      lower = λ q lt. ⊎_elim
          (λ same. ap (λ y. cell new m b y) same
          ∙ get_or-set_same mid (b * m + c) (cell now m a c) 0 place_b
          ∙ h.later a c (omega arith) cm ∙ ap (λ y. cell first m a y) (sym same))
          (λ ne. other b q (omega arith) (col b a q (omega arith) ne) (col b b q (omega arith) ne) ∙ h.lower q (omega arith)) (cases_eq q c);
      later = λ i q lt below. let ne : q ≢ c = omega arith in
          other i q below (col i a q below ne) (col i b q below ne) ∙ h.later i q (omega arith) below;
      others = λ i q below na nb.
          other i q below (λ x. na (same_from_place i q a c m below cm x).0) (λ x. nb (same_from_place i q b c m below cm x).0) ∙ h.others i q below na nb;
    }

-- the step of a loop that clears a column: the row itself, and another row
pub column_skip : (p m : ℕ) (first now : List ℕ) (row col i : ℕ) → IsColumnSoFar p m first now row col i → i ≡ row → IsColumnSoFar p m first now row col (i + 1)
column_skip p m first now row col i h e = record {
  done = λ k c lt ne below. h.done k c (omega arith) ne below;
  later = λ k c le below. h.later k c (omega arith) below;
  kept = h.kept;
}

-- and another row that is 0 there already
pub column_zero : (p m : ℕ) (first now : List ℕ) (row col i : ℕ) → IsColumnSoFar p m first now row col i → col < m → cell now m i col ≡ 0
    → ((c : ℕ) → c < m → cell now m i c < p) → IsColumnSoFar p m first now row col (i + 1)
column_zero p m first now row col i h cm zero_there small = record {
  done = λ k c lt ne below. ⊎_elim
      (λ same. let inner = h.later i c (omega arith) below in
      ap (λ y. cell now m y c) same ∙ inner
      ∙ sym (ap (λ y. (cell first m y c + (p - cell first m y col) * cell first m row c) % p) same
      ∙ ap (λ y. (cell first m i c + (p - y) * cell first m row c) % p) (sym (h.later i col (omega arith) cm) ∙ zero_there)
      ∙ ap (λ y. (cell first m i c + y * cell first m row c) % p) (let s : p - 0 ≡ p = omega arith in s)
      ∙ add-mul-mod_self_left (cell first m i c) p (cell first m row c)
      ∙ mod-eq_of_lt (let s = small c below in omega arith)))
      (λ other. h.done k c (omega arith) ne below) (cases_eq k i);
  later = λ k c le below. h.later k c (omega arith) below;
  kept = h.kept;
}

pub column_more : (p m : ℕ) (first now new : List ℕ) (row col i : ℕ) → IsColumnSoFar p m first now row col i → i ≢ row → col < m
    → ((c : ℕ) → c < m → cell new m i c ≡ (cell now m i c + (p - cell now m i col) * cell now m row c) % p)
    → ((k c : ℕ) → c < m → k ≢ i → cell new m k c ≡ cell now m k c)
    → IsColumnSoFar p m first new row col (i + 1)
column_more p m first now new row col i h apart cm added others = record {
  done = λ k c lt ne below. ⊎_elim
      (λ same. ap (λ y. cell new m y c) same ∙ added c below
      ∙ ap (λ y. (y + (p - cell now m i col) * cell now m row c) % p) (h.later i c (omega arith) below)
      ∙ ap (λ y. (cell first m i c + (p - y) * cell now m row c) % p) (h.later i col (omega arith) cm)
      ∙ ap (λ y. (cell first m i c + (p - cell first m i col) * y) % p) (h.kept c below)
      ∙ ap (λ y. (cell first m y c + (p - cell first m y col) * cell first m row c) % p) (sym same))
      (λ other. others k c below other ∙ h.done k c (omega arith) ne below) (cases_eq k i);
  later = λ k c le below. others k c below (omega arith) ∙ h.later k c (omega arith) below;
  kept = λ c below. others row c below (omega arith) ∙ h.kept c below;
}
