-- The steps of the loops over paths and relations.
use Rattle.std.proofs.Common.{◌≡◌, ℕ, ◌+◌, ◌*◌, ◌/◌, ◌%◌, ◌<◌, sym, ap, ◌∙◌, subst, arith}
use Rattle.std.proofs.lemmas.Nat.{div-mul-add, mod-mul-add, div_below, mod_below}
use Rattle.std.proofs.Math.Nat.{mul_assoc, add-mul, one-mul, zero-mul, div-add-mod'}
use Rattle.cap_matrix.specs.Grid.{Grid, entry}
use Rattle.cap_matrix.proofs.Writes.{some_below}
use Rattle.cap_quiver_laws.specs.Quotient.{PathNumbers}
use Rattle.cap_quiver_laws.specs.Ideal.{Relations, relation_row, ideal_rows, ideal_table}
use Rattle.cap_quiver_laws.specs.ClassTable.{SpanTheSame}
use Rattle.cap_quiver_laws.proofs.SpanSteps.{span-start}
use Rattle.cap_quiver_ideal.specs.Spans.{IsShort, IsGrown, IsSpanOf}
use Rattle.cap_quiver_ideal.proofs.Growth.{grown-append}

-- one more path on the right, and one more on the left
pub right-step : (m v : ℕ) (f : ℕ → ℕ → ℕ) (J F G : Grid) → IsGrown v m f J F → IsGrown 1 m (λ _. f v) F G → IsGrown (v + 1) m f J G
right-step m v f J F G P Q = grown-append v 1 m f (λ _. f v) J F G P Q (λ i q li lq. ap (λ x. f x q) (let e : v + i ≡ v = omega (arith, li) in e))

pub left-step : (m u : ℕ) (f : ℕ → ℕ → ℕ → ℕ) (J F G : Grid) → IsGrown (u * m) m (λ i. f (i / m) (i % m)) J F → IsGrown m m (f u) F G → IsGrown ((u + 1) * m) m (λ i. f (i / m) (i % m)) J G
left-step m u f J F G P Q =
    subst (λ x. IsGrown x m (λ i. f (i / m) (i % m)) J G) (let e : u * m + m ≡ (u + 1) * m = omega (arith, add-mul u 1 m, one-mul m) in e)
    (grown-append (u * m) m m (λ i. f (i / m) (i % m)) (f u) J F G P Q
    (λ i q li lq. ap (λ x. f x ((u * m + i) % m) q) (div-mul-add u m i li) ∙ ap (λ x. f u x q) (mod-mul-add u m i li)))

-- row i of the products of relation r
place : (r m a b i : ℕ) → a * m + b ≡ i → r * (m * m) + i ≡ (r * m + a) * m + b
place r m a b i e = omega (arith, e, add-mul (r * m) a m, mul_assoc r m m)

table-at : (p : ℕ) (A : PathNumbers) (R : Relations) (number : ℕ → ℕ → ℕ) (r i q : ℕ) → i < A.count * A.count → ideal_table p A R number (r * (A.count * A.count) + i) q ≡ relation_row p A R number r (i / A.count) (i % A.count) q
table-at p A R number r i q li =
    let m = A.count in
    let some : 0 < m = some_below i m m li in
    let a = i / m in
    let b = i % m in
    let la : a < m = div_below i m m some li in
    let lb : b < m = mod_below i m some in
    let n = r * (m * m) + i in
    let whole : n ≡ (r * m + a) * m + b = place r m a b i (div-add-mod' i m) in
    let first : n / m ≡ r * m + a = ap (λ x. x / m) whole ∙ div-mul-add (r * m + a) m b lb in
    ap (λ x. relation_row p A R number (x / m) (x % m) (n % m) q) first
    ∙ ap (λ x. relation_row p A R number x ((r * m + a) % m) (n % m) q) (div-mul-add r m a la)
    ∙ ap (λ x. relation_row p A R number r x (n % m) q) (mod-mul-add r m a la)
    ∙ ap (λ x. relation_row p A R number r a x q) (ap (λ x. x % m) whole ∙ mod-mul-add (r * m + a) m b lb)

pub relation-step : (p : ℕ) (A : PathNumbers) (R : Relations) (number : ℕ → ℕ → ℕ) (r : ℕ) (J F : Grid) → IsSpanOf p (r * (A.count * A.count)) A.count (ideal_table p A R number) J
    → IsGrown (A.count * A.count) A.count (λ i. relation_row p A R number r (i / A.count) (i % A.count)) J F → IsSpanOf p ((r + 1) * (A.count * A.count)) A.count (ideal_table p A R number) F
relation-step p A R number r J F S P =
    let m = A.count in
    let t = ideal_table p A R number in
    let e : J.prime ≡ p = S.short.matrix.is.prime in
    let next : r * (m * m) + m * m ≡ (r + 1) * (m * m) = omega (arith, add-mul r 1 (m * m), one-mul (m * m)) in
    record {
      short = subst (λ x. IsShort x m F) e P.short;
      same = subst (λ x. SpanTheSame p x F.row_count m t (entry F.entries)) next (subst (λ x. SpanTheSame x (r * (m * m) + m * m) F.row_count m t (entry F.entries)) e
          (P.spans (r * (m * m)) t (subst (λ x. SpanTheSame x (r * (m * m)) J.row_count m t (entry J.entries)) (sym e) S.same) (λ i q li lq. table-at p A R number r i q li)));
    }

pub span-none : (p m : ℕ) (t : ℕ → ℕ → ℕ) (J : Grid) → IsShort p m J → J.row_count ≡ 0 → IsSpanOf p (0 * (m * m)) m t J
span-none p m t J K none = record {
  short = K;
  same = subst (λ x. SpanTheSame p x J.row_count m t (entry J.entries)) (sym (zero-mul (m * m))) (subst (λ x. SpanTheSame p 0 x m t (entry J.entries)) (sym none) (span-start p m t (entry J.entries)));
}

pub span-all : (p : ℕ) (A : PathNumbers) (R : Relations) (number : ℕ → ℕ → ℕ) (J : Grid) → IsSpanOf p (R.count * (A.count * A.count)) A.count (ideal_table p A R number) J → IsSpanOf p (ideal_rows A R) A.count (ideal_table p A R number) J
span-all p A R number J S = subst (λ x. IsSpanOf p x A.count (ideal_table p A R number) J) (sym (mul_assoc R.count A.count A.count)) S
