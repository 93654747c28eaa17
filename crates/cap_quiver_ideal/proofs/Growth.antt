-- Spans that grow row by row.
use Rattle.std.proofs.Common.{◌≡◌, ℕ, zero, suc, ◌+◌, ◌-◌, ◌*◌, ◌%◌, ◌<◌, ◌≤◌, sym, ap, ◌∙◌, subst, arith, ⊎_elim}
use Rattle.std.proofs.lemmas.Bool.{cases_lt}
use Rattle.std.proofs.Math.Nat.{mod-mod}
use Rattle.cap_matrix.specs.Grid.{Grid, IsMatrixOf, entry, stacked_of}
use Rattle.cap_matrix.specs.Reduced.{InSpan, IsReducedForm}
use Rattle.cap_matrix.proofs.Blocks.{stacked-matrix}
use Rattle.cap_reduce.proofs.Spans.{span_same, span_row, span_scale, span_within}
use Rattle.cap_quiver_laws.specs.Quotient.{IsCongruent}
use Rattle.cap_quiver_laws.specs.ClassTable.{SpanTheSame}
use Rattle.cap_quiver_laws.proofs.Congruence.{cong-sym}
use Rattle.cap_quiver_laws.proofs.SpanSteps.{span-skip, span-step, form-matrix, form-short}
use Rattle.cap_quiver_ideal.specs.Spans.{IsShort, IsGrown}

pub grown-same : (m : ℕ) (f : ℕ → ℕ → ℕ) (J : Grid) → IsShort J.prime m J → IsGrown 0 m f J J
grown-same m f J K = record {
  short = K;
  spans = λ k t S h. subst (λ i. SpanTheSame J.prime i J.row_count m t (entry J.entries)) (let e : k ≡ k + 0 = omega arith in e) S;
}

-- rows of equal entries
pub grown-alike : (n m : ℕ) (f g : ℕ → ℕ → ℕ) (J F : Grid) → IsGrown n m f J F → ((i q : ℕ) → i < n → q < m → f i q ≡ g i q) → IsGrown n m g J F
grown-alike n m f g J F P e = record { short = P.short; spans = λ k t S h. P.spans k t S (λ i q li lq. h i q li lq ∙ sym (e i q li lq)) }

pub grown-append : (a b m : ℕ) (f g : ℕ → ℕ → ℕ) (J F G : Grid) → IsGrown a m f J F → IsGrown b m g F G → ((i q : ℕ) → i < b → q < m → f (a + i) q ≡ g i q) → IsGrown (a + b) m f J G
grown-append a b m f g J F G P Q e =
    let p : F.prime ≡ J.prime = P.short.matrix.is.prime in
    record {
      short = subst (λ x. IsShort x m G) p Q.short;
      spans = λ k t S h.
          let first : SpanTheSame F.prime (k + a) F.row_count m t (entry F.entries) = subst (λ x. SpanTheSame x (k + a) F.row_count m t (entry F.entries)) (sym p) (P.spans k t S (λ i q li lq. h i q (omega (arith, li)) lq)) in
          let second : SpanTheSame F.prime (k + a + b) G.row_count m t (entry G.entries) = Q.spans (k + a) t first
          (λ i q li lq. ap (λ x. t x q) (let s : k + a + i ≡ k + (a + i) = omega arith in s) ∙ h (a + i) q (omega (arith, li)) lq ∙ e i q li lq) in
          subst (λ x. SpanTheSame x (k + (a + b)) G.row_count m t (entry G.entries)) p
          (subst (λ i. SpanTheSame F.prime i G.row_count m t (entry G.entries)) (let s : k + a + b ≡ k + (a + b) = omega arith in s) second);
    }

-- a row of zeros adds nothing, and neither do many
grown-zero : (m : ℕ) (v : ℕ → ℕ) (J : Grid) → IsShort J.prime m J → ((q : ℕ) → q < m → v q ≡ 0) → IsGrown 1 m (λ _. v) J J
grown-zero m v J K z = record {
  short = K;
  spans = λ k t S h. span-skip J.prime k J.row_count m t (entry J.entries) S (λ q lq. ap (λ x. t x q) (let e : k ≡ k + 0 = omega arith in e) ∙ h 0 q (omega arith) lq ∙ z q lq);
}

pub grown-zeros : (n m : ℕ) (f : ℕ → ℕ → ℕ) (J : Grid) → IsShort J.prime m J → ((i q : ℕ) → i < n → q < m → f i q ≡ 0) → IsGrown n m f J J
grown-zeros zero m f J K z = grown-same m f J K
grown-zeros (suc n) m f J K z =
    subst (λ x. IsGrown x m f J J) (let e : n + 1 ≡ suc n = omega arith in e)
    (grown-append n 1 m f (λ _. f n) J J J (grown-zeros n m f J K (λ i q li lq. z i q (omega (arith, li)) lq)) (grown-zero m (f n) J K (λ q lq. z n q (omega arith) lq))
    (λ i q li lq. ap (λ x. f x q) (let e : n + i ≡ n = omega (arith, li) in e)))

-- nor does a row of the span
span-known : (p k r m : ℕ) (t u : ℕ → ℕ → ℕ) → SpanTheSame p k r m t u → InSpan p r m u (t k) → SpanTheSame p (k + 1) r m t u
span-known p k r m t u S s = record {
  there = λ i lt. ⊎_elim
      (λ less. S.there i less)
      (λ ge. subst (λ x. InSpan p r m u (t x)) (let e : k ≡ i = omega (arith, lt, ge) in e) s)
      (cases_lt i k);
  back = λ i lt. span_within p (k + 1) m t k t (u i) (λ j lj. span_row p (k + 1) m t j (omega (arith, lj))) (S.back i lt);
}

pub grown-spanned : (m : ℕ) (v : ℕ → ℕ) (J : Grid) → IsShort J.prime m J → InSpan J.prime J.row_count m (entry J.entries) v → IsGrown 1 m (λ _. v) J J
grown-spanned m v J K s = record {
  short = K;
  spans = λ k t S h. span-known J.prime k J.row_count m t (entry J.entries) S
      (span_same J.prime J.row_count m (entry J.entries) v (t k) s
      (λ q lq. ap (λ x. x % J.prime) (sym (ap (λ x. t x q) (let e : k ≡ k + 0 = omega arith in e) ∙ h 0 q (omega arith) lq))));
}

-- the reduced form of J and a row below it
pub grown-reduced : (m : ℕ) (v : ℕ → ℕ) (J X F : Grid) → IsShort J.prime m J → IsMatrixOf J.prime 1 m X → IsReducedForm (stacked_of J X) F → ((q : ℕ) → q < m → entry X.entries 0 q ≡ v q) → IsGrown 1 m (λ _. v) J F
grown-reduced m v J X F K N R read =
    let W = stacked-matrix K.matrix N in
    record {
      short = record { matrix = form-matrix W R; few = form-short W R };
      spans = λ k t S h. span-step {p = J.prime} {r = J.row_count} {m = m} {J = J} {X = X} {F = F} k t K.matrix N R
          (λ q lq. read q lq ∙ sym (ap (λ x. t x q) (let e : k ≡ k + 0 = omega arith in e) ∙ h 0 q (omega arith) lq)) S;
    }

-- a multiple of a row was taken off
pub taken-off : (p n m : ℕ) (t : ℕ → ℕ → ℕ) (f c : ℕ) (old now : ℕ → ℕ) → f < n → ((q : ℕ) → q < m → now q ≡ (old q + (p - c) * t f q) % p) → IsCongruent p n m t now old
taken-off p n m t f c old now lf h = record {
  element = λ q. (p - c) * t f q;
  inside = span_scale p n m t (t f) (p - c) (span_row p n m t f lf);
  same = λ q lt. ap (λ s. s % p) (h q lt) ∙ mod-mod (old q + (p - c) * t f q) p;
}

-- a row of which nothing is left is in the span
pub nothing-left : (p n m : ℕ) (t : ℕ → ℕ → ℕ) (old now : ℕ → ℕ) → 1 ≤ p → IsCongruent p n m t now old → ((q : ℕ) → q < m → now q ≡ 0) → InSpan p n m t old
nothing-left p n m t old now pos C z =
    let B : IsCongruent p n m t old now = cong-sym p n m t pos C in
    span_same p n m t B.element old B.inside
    (λ q lt. sym (B.same q lt ∙ ap (λ s. s % p) (let e : now q + B.element q ≡ B.element q = omega (arith, z q lt) in e)))
