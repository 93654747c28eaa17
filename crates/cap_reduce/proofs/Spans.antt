-- Spans are closed under sums and multiples, and hold their rows.
use Rattle.std.proofs.Common.{◌≡◌, ℕ, zero, suc, ◌+◌, ◌*◌, ◌%◌, ◌<◌, cond, eqb, refl, sym, ap, ◌∙◌, arith}
use Rattle.std.proofs.lemmas.Nat.{mul-mod_second}
use Rattle.std.proofs.lemmas.Bool.{eq-eqb, ne_eqb, cond-true, cond-false}
use Rattle.std.proofs.Math.Nat.{add-mod, zero-mul, one-mul, mul_assoc, add-mul}
use Rattle.cap_matrix.specs.Grid.{total}
use Rattle.cap_matrix.proofs.Sums.{total-same, total-zeros, total-plus, total-scale, total-one}
use Rattle.cap_matrix.specs.Reduced.{InSpan}

pub span_same : (p n m : ℕ) (t : ℕ → ℕ → ℕ) (v w : ℕ → ℕ) → InSpan p n m t v → ((j : ℕ) → j < m → v j % p ≡ w j % p) → InSpan p n m t w
span_same p n m t v w s h = (s.0, λ j lt. s.1 j lt ∙ h j lt)

pub span_zero : (p n m : ℕ) (t : ℕ → ℕ → ℕ) → InSpan p n m t (λ j. 0)
span_zero p n m t = (λ i. 0, λ j lt. ap (λ s. s % p) (total-zeros n (λ i. 0 * t i j) (λ i below. zero-mul (t i j))))

pub span_add : (p n m : ℕ) (t : ℕ → ℕ → ℕ) (v w : ℕ → ℕ) → InSpan p n m t v → InSpan p n m t w → InSpan p n m t (λ j. v j + w j)
span_add p n m t v w a b = (
  λ i. a.0 i + b.0 i,
  λ j lt.
      ap (λ s. s % p)
      (total-same n (λ i. (a.0 i + b.0 i) * t i j) (λ i. a.0 i * t i j + b.0 i * t i j) (λ i below. add-mul (a.0 i) (b.0 i) (t i j))
      ∙ total-plus n (λ i. a.0 i * t i j) (λ i. b.0 i * t i j))
      ∙ add-mod (total n (λ i. a.0 i * t i j)) (total n (λ i. b.0 i * t i j)) p
      ∙ ap (λ s. (s + total n (λ i. b.0 i * t i j) % p) % p) (a.1 j lt)
      ∙ ap (λ s. (v j % p + s) % p) (b.1 j lt)
      ∙ sym (add-mod (v j) (w j) p),
)

pub span_scale : (p n m : ℕ) (t : ℕ → ℕ → ℕ) (v : ℕ → ℕ) (c : ℕ) → InSpan p n m t v → InSpan p n m t (λ j. c * v j)
span_scale p n m t v c a = (
  λ i. c * a.0 i,
  λ j lt.
      ap (λ s. s % p)
      (total-same n (λ i. c * a.0 i * t i j) (λ i. c * (a.0 i * t i j)) (λ i below. mul_assoc c (a.0 i) (t i j))
      ∙ total-scale n c (λ i. a.0 i * t i j))
      ∙ sym (mul-mod_second c (total n (λ i. a.0 i * t i j)) p)
      ∙ ap (λ s. (c * s) % p) (a.1 j lt)
      ∙ mul-mod_second c (v j) p,
)

pub span_row : (p n m : ℕ) (t : ℕ → ℕ → ℕ) (i : ℕ) → i < n → InSpan p n m t (t i)
span_row p n m t i lt = (
  λ k. cond (eqb k i) 1 0,
  λ j below.
      ap (λ s. s % p)
      (total-one n i (λ k. cond (eqb k i) 1 0 * t k j) lt
      (λ k inside apart. ap (λ c. c * t k j) (cond-false (eqb k i) 1 0 (ne_eqb k i apart)) ∙ zero-mul (t k j))
      ∙ ap (λ c. c * t i j) (cond-true (eqb i i) 1 0 (eq-eqb i i refl)) ∙ one-mul (t i j)),
)

-- combinations of rows that are in a span are in it
pub span_combine : (p n m : ℕ) (t : ℕ → ℕ → ℕ) (s : ℕ) (u : ℕ → ℕ → ℕ) (y : ℕ → ℕ) → ((i : ℕ) → i < s → InSpan p n m t (u i))
    → InSpan p n m t (λ j. total s (λ i. y i * u i j))
span_combine p n m t zero u y h = span_zero p n m t
span_combine p n m t (suc s) u y h =
    span_add p n m t (λ j. total s (λ i. y i * u i j)) (λ j. y s * u s j)
    (span_combine p n m t s u y (λ i lt. h i (omega arith)))
    (span_scale p n m t (u s) (y s) (h s (omega arith)))

pub span_within : (p n m : ℕ) (t : ℕ → ℕ → ℕ) (s : ℕ) (u : ℕ → ℕ → ℕ) (v : ℕ → ℕ) → ((i : ℕ) → i < s → InSpan p n m t (u i))
    → InSpan p s m u v → InSpan p n m t v
span_within p n m t s u v h a =
    span_same p n m t (λ j. total s (λ i. a.0 i * u i j)) v (span_combine p n m t s u a.0 h) a.1
