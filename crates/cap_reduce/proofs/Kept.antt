-- The steps of an elimination keep the span, and its end is reduced.
use Rattle.std.proofs.Common.{◌≡◌, ℕ, ◌+◌, ◌-◌, ◌*◌, ◌%◌, ◌<◌, ◌≤◌, sym, ap, ◌∙◌, arith, ⊎_elim}
use Rattle.std.proofs.lemmas.Nat.{mul-mod_first, mul-mod_second}
use Rattle.std.proofs.lemmas.Bool.{cases_eq, cases_lt}
use Rattle.std.proofs.Math.Nat.{mod-lt, mod-add-mod, mod-mod, add-mul-mod_self_left, one-mul, mul_comm, mul_assoc, add-mul, add_assoc}
use Rattle.cap_matrix.specs.Reduced.{InSpan, IsReducedBy}
use Rattle.cap_reduce.specs.Cleared.{IsCleared, IsPivoted, IsSwapped, IsSameSpan}
use Rattle.cap_reduce.proofs.Spans.{span_same, span_zero, span_add, span_scale, span_row, span_within}

pub same_span_refl : (p n m : ℕ) (t : ℕ → ℕ → ℕ) → IsSameSpan p n m t t
same_span_refl p n m t = record { there = span_row p n m t; back = span_row p n m t }

pub same_span_trans : (p n m : ℕ) (t u w : ℕ → ℕ → ℕ) → IsSameSpan p n m t u → IsSameSpan p n m u w → IsSameSpan p n m t w
same_span_trans p n m t u w a b = record {
  there = λ i lt. span_within p n m t n u (w i) a.there (b.there i lt);
  back = λ i lt. span_within p n m w n u (t i) b.back (a.back i lt);
}

pub same_span_swap : (p n m : ℕ) (t u : ℕ → ℕ → ℕ) (a b : ℕ) → a < n → b < n → IsSwapped n m t u a b → IsSameSpan p n m t u
same_span_swap p n m t u a b an bn s = record {
  there = λ i lt. ⊎_elim
      (λ e. span_same p n m t (t b) (u i) (span_row p n m t b bn) (λ c below. ap (λ y. y % p) (sym (ap (λ y. u y c) e ∙ s.first c below))))
      (λ na. ⊎_elim
      (λ e. span_same p n m t (t a) (u i) (span_row p n m t a an) (λ c below. ap (λ y. y % p) (sym (ap (λ y. u y c) e ∙ s.second c below))))
      (λ nb. span_same p n m t (t i) (u i) (span_row p n m t i lt) (λ c below. ap (λ y. y % p) (sym (s.others i c lt na nb below))))
      (cases_eq i b)) (cases_eq i a);
  back = λ i lt. ⊎_elim
      (λ e. span_same p n m u (u b) (t i) (span_row p n m u b bn) (λ c below. ap (λ y. y % p) (s.second c below ∙ sym (ap (λ y. t y c) e))))
      (λ na. ⊎_elim
      (λ e. span_same p n m u (u a) (t i) (span_row p n m u a an) (λ c below. ap (λ y. y % p) (s.first c below ∙ sym (ap (λ y. t y c) e))))
      (λ nb. span_same p n m u (u i) (t i) (span_row p n m u i lt) (λ c below. ap (λ y. y % p) (s.others i c lt na nb below)))
      (cases_eq i b)) (cases_eq i a);
}

-- a, less itself times w, with a times w, is a
gives_back : (p x a w : ℕ) → a ≤ p → ((x + (p - a) * w) % p + a * w) % p ≡ x % p
gives_back p x a w h =
    mod-add-mod (x + (p - a) * w) p (a * w)
    ∙ ap (λ y. y % p) (add_assoc x ((p - a) * w) (a * w) ∙ ap (λ y. x + y) (sym (add-mul (p - a) a w) ∙ ap (λ y. y * w) (let e : p - a + a ≡ p = omega arith in e)))
    ∙ add-mul-mod_self_left x p w

times_inverse : (p a x b : ℕ) → (a * b) % p ≡ 1 → (a * ((x * b) % p)) % p ≡ x % p
times_inverse p a x b h =
    mul-mod_second a (x * b) p
    ∙ ap (λ y. y % p) (ap (λ y. a * y) (mul_comm x b) ∙ sym (mul_assoc a b x))
    ∙ sym (mul-mod_first (a * b) x p)
    ∙ ap (λ y. (y * x) % p) h
    ∙ ap (λ y. y % p) (one-mul x)

pub same_span_pivot : (p n m : ℕ) (t u : ℕ → ℕ → ℕ) (r j b : ℕ) → r < n → j < m → ((i : ℕ) → i < n → t i j < p) → IsPivoted p n m t u r j b → IsSameSpan p n m t u
same_span_pivot p n m t u r j b rn jm small g =
    let u_row : InSpan p n m t (u r) = span_same p n m t (λ c. b * t r c) (u r) (span_scale p n m t (t r) b (span_row p n m t r rn))
    (λ c below. ap (λ y. y % p) (mul_comm b (t r c)) ∙ sym (mod-mod (t r c * b) p) ∙ ap (λ y. y % p) (sym (g.row c below))) in
    let t_row : InSpan p n m u (t r) = span_same p n m u (λ c. t r j * u r c) (t r) (span_scale p n m u (u r) (t r j) (span_row p n m u r rn))
    (λ c below. ap (λ y. (t r j * y) % p) (g.row c below) ∙ times_inverse p (t r j) (t r c) b g.unit) in
    record {
      there = λ i lt. ⊎_elim
          (λ e. span_same p n m t (u r) (u i) u_row (λ c below. ap (λ y. u y c % p) (sym e)))
          (λ ne. span_same p n m t (λ c. t i c + (p - t i j) * u r c) (u i)
          (span_add p n m t (t i) (λ c. (p - t i j) * u r c) (span_row p n m t i lt) (span_scale p n m t (u r) (p - t i j) u_row))
          (λ c below. sym (mod-mod (t i c + (p - t i j) * u r c) p) ∙ ap (λ y. y % p) (sym (g.others i c lt ne below))))
          (cases_eq i r);
      back = λ i lt. ⊎_elim
          (λ e. span_same p n m u (t r) (t i) t_row (λ c below. ap (λ y. t y c % p) (sym e)))
          (λ ne. span_same p n m u (λ c. u i c + t i j * u r c) (t i)
          (span_add p n m u (u i) (λ c. t i j * u r c) (span_row p n m u i lt) (span_scale p n m u (u r) (t i j) (span_row p n m u r rn)))
          (λ c below. ap (λ y. (y + t i j * u r c) % p) (g.others i c lt ne below) ∙ gives_back p (t i c) (t i j) (u r c) (let e = small i lt in omega arith)))
          (cases_eq i r);
    }

-- past the last column the first r rows are reduced, and the others are 0
pub reduced_at_end : (p n m : ℕ) (t : ℕ → ℕ → ℕ) (lead : ℕ → ℕ) (r : ℕ) → IsCleared p n m t lead r m → IsReducedBy p r m t lead
reduced_at_end p n m t lead r h = record {
  residues = λ i c lt below. h.residues i c (let f = h.few in omega arith) below;
  inside = h.inside;
  rising = h.rising;
  before = h.before;
  one = h.one;
  clear = λ i k lt below ne. h.clear i k (let f = h.few in omega arith) below ne;
}

-- and the first r rows have the span of all
pub span_at_end : (p n m : ℕ) (t : ℕ → ℕ → ℕ) (lead : ℕ → ℕ) (r : ℕ) → IsCleared p n m t lead r m → (i : ℕ) → i < n → InSpan p r m t (t i)
span_at_end p n m t lead r h i lt =
    ⊎_elim (λ less. span_row p r m t i less)
    (λ ge. span_same p r m t (λ c. 0) (t i) (span_zero p r m t) (λ c below. ap (λ y. y % p) (sym (h.under i c ge lt below))))
    (cases_lt i r)

pub swapped_residues : (p n m : ℕ) (t u : ℕ → ℕ → ℕ) (a b : ℕ) → a < n → b < n → IsSwapped n m t u a b
    → ((i c : ℕ) → i < n → c < m → t i c < p) → (i c : ℕ) → i < n → c < m → u i c < p
swapped_residues p n m t u a b an bn s h i c lt below = ⊎_elim
    (λ e. let x = ap (λ y. u y c) e ∙ s.first c below in let y = h b c bn below in omega arith)
    (λ na. ⊎_elim (λ e. let x = ap (λ y. u y c) e ∙ s.second c below in let y = h a c an below in omega arith)
    (λ nb. let x = s.others i c lt na nb below in let y = h i c lt below in omega arith) (cases_eq i b)) (cases_eq i a)

pub pivoted_residues : (p n m : ℕ) (t u : ℕ → ℕ → ℕ) (r j b : ℕ) → 2 ≤ p → IsPivoted p n m t u r j b → (i c : ℕ) → i < n → c < m → u i c < p
pivoted_residues p n m t u r j b big g i c lt below = ⊎_elim
    (λ e. let x = ap (λ y. u y c) e ∙ g.row c below in let y = mod-lt (t r c * b) {m = p} (omega arith) in omega arith)
    (λ ne. let x = g.others i c lt ne below in let y = mod-lt (t i c + (p - t i j) * u r c) {m = p} (omega arith) in omega arith)
    (cases_eq i r)
