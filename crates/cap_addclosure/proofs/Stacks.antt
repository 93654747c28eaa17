-- Rows one after another.
use Rattle.std.proofs.Common.{◌≡◌, ℕ, ◌+◌, ◌-◌, ◌*◌, ◌<◌, ◌≤◌, List, [], ◌++◌, length, get_or, sym, ap, ◌∙◌, arith, ⊎_elim, length-append}
use Rattle.std.proofs.lemmas.Bool.{cases_lt}
use Rattle.std.proofs.lemmas.List.{get_or_append_left, get_or-append_right}
use Rattle.std.proofs.lemmas.Nat.{mul-add-lt}
use Rattle.std.proofs.Math.Nat.{zero-mul, add-mul}
use Rattle.cap_addclosure.specs.TwoSided.{IsStack}

pub stack-none : (m : ℕ) (R : ℕ → List ℕ) → IsStack 0 m R []
stack-none m R = record { long = sym (zero-mul m); at = λ k c h below. absurd (omega (arith, h)) }

pub stack-append : {n k m : ℕ} {R : ℕ → List ℕ} {xs ys : List ℕ} → IsStack n m R xs → IsStack k m (λ t. R (n + t)) ys → IsStack (n + k) m R (xs ++ ys)
stack-append {n} {k} {m} {R} {xs} {ys} X Y = record {
  long = length-append xs ys ∙ ap (λ z. z + length ys) X.long ∙ ap (λ z. n * m + z) Y.long ∙ sym (add-mul n k m);
  at = λ i c hi hc. ⊎_elim
      (λ (low : i < n). get_or_append_left xs ys 0 (i * m + c) (omega (arith, mul-add-lt i m c n low hc, X.long)) ∙ X.at i c low hc)
      (λ (high : n ≤ i).
      let t = i - n in
      let d : i ≡ n + t = omega (arith, high) in
      let place : i * m + c ≡ n * m + (t * m + c) = ap (λ z. z * m + c) d ∙ ap (λ z. z + c) (add-mul n t m) ∙ (let e : n * m + t * m + c ≡ n * m + (t * m + c) = omega arith in e) in
      ap (λ z. get_or (xs ++ ys) z 0) place
      ∙ get_or-append_right xs ys (n * m) (n * m + (t * m + c)) 0 X.long (omega arith)
      ∙ ap (λ z. get_or ys z 0) (let e : n * m + (t * m + c) - n * m ≡ t * m + c = omega arith in e)
      ∙ Y.at t c (omega (arith, hi, high)) hc
      ∙ ap (λ z. get_or (R z) c 0) (sym d))
      (cases_lt i n);
}

pub stack-one : {m : ℕ} {R : ℕ → List ℕ} {xs : List ℕ} → length xs ≡ m → xs ≡ R 0 → IsStack 1 m R xs
stack-one {m} {R} {xs} long e = record {
  long = long ∙ (let d : m ≡ 1 * m = omega arith in d);
  at = λ k c h below.
      let z : k ≡ 0 = omega (arith, h) in
      ap (λ i. get_or xs (i * m + c) 0) z ∙ ap (λ i. get_or xs i 0) (let d : 0 * m + c ≡ c = omega arith in d) ∙ ap (λ (l : List ℕ). get_or l c 0) e ∙ ap (λ i. get_or (R i) c 0) (sym z);
}

-- the same rows by another formula
pub stack-same : {n m : ℕ} {R S : ℕ → List ℕ} {xs : List ℕ} → IsStack n m R xs → ((k : ℕ) → k < n → R k ≡ S k) → IsStack n m S xs
stack-same {n} {m} {R} {S} {xs} X h = record { long = X.long; at = λ k c hk hc. X.at k c hk hc ∙ ap (λ (l : List ℕ). get_or l c 0) (h k hk) }
