-- The null-row basis by one elimination of the transpose, turned round.
use Rattle.std.proofs.Common.{◌≡◌, ◌≢◌, ℕ, ◌+◌, ◌-◌, ◌*◌, ◌%◌, ◌<◌, ◌≤◌, cond, eqb, refl, sym, ap, ◌∙◌, subst, arith, ⊎_elim}
use Rattle.std.proofs.lemmas.Bool.{cases_eq, cases_lt, eq-eqb, ne_eqb, cond-true, cond-false}
use Rattle.std.proofs.Math.Nat.{mod-lt, mod_self, mod-add-mod, add-mul-mod_self_left, mul_comm, mul-one, one-mul, mul-zero, zero-mul}
use Rattle.cap_matrix.specs.Grid.{Grid, IsMatrixOf, entry, total, matrix_by}
use Rattle.cap_matrix.proofs.Sums.{total-same, total-plus, total-swap, total-one}
use Rattle.cap_matrix.proofs.Entries.{delta, delta-same, delta-other}
use Rattle.cap_matrix.specs.Reduced.{InSpan, IsReducedBy, IsNullBasis}
use Rattle.cap_reduce.specs.NullTable.{IsFree, IsNullTable}
use Rattle.cap_reduce.proofs.Null.{IsNull, relation_in_span}
use Rattle.cap_reduce.proofs.NullBasis.{basis-from-table}

-- sums: in reverse order, and with one term apart
pub total-reverse : (n : ℕ) (f : ℕ → ℕ) → total n f ≡ total n (λ q. f (n - 1 - q))
total-reverse n f =
    total-same n f (λ c. total n (λ q. delta q (n - 1 - c) * f c))
    (λ c lt. sym (total-one n (n - 1 - c) (λ q. delta q (n - 1 - c) * f c) (omega arith)
    (λ q below ne. ap (λ y. y * f c) (delta-other q (n - 1 - c) ne) ∙ zero-mul (f c))
    ∙ ap (λ y. y * f c) (delta-same (n - 1 - c)) ∙ one-mul (f c)))
    ∙ total-swap n n (λ c q. delta q (n - 1 - c) * f c)
    ∙ total-same n (λ q. total n (λ c. delta q (n - 1 - c) * f c)) (λ q. f (n - 1 - q))
    (λ q lt. total-one n (n - 1 - q) (λ c. delta q (n - 1 - c) * f c) (omega arith)
    (λ c below ne. ap (λ y. y * f c) (delta-other q (n - 1 - c) (λ e. ne (let s : c ≡ n - 1 - q = omega arith in s))) ∙ zero-mul (f c))
    ∙ ap (λ y. delta q y * f (n - 1 - q)) (let e : n - 1 - (n - 1 - q) ≡ q = omega arith in e)
    ∙ ap (λ y. y * f (n - 1 - q)) (delta-same q) ∙ one-mul (f (n - 1 - q)))

abbrev pub without : ℕ → (ℕ → ℕ) → ℕ → ℕ
without l f q = cond (eqb q l) 0 (f q)

pub without-here : (l : ℕ) (f : ℕ → ℕ) → without l f l ≡ 0
without-here l f = cond-true (eqb l l) 0 (f l) (eq-eqb l l refl)

pub without-other : (l : ℕ) (f : ℕ → ℕ) (q : ℕ) → q ≢ l → without l f q ≡ f q
without-other l f q ne = cond-false (eqb q l) 0 (f q) (ne_eqb q l ne)

pub total-split : (n l : ℕ) (f : ℕ → ℕ) → l < n → total n f ≡ f l + total n (without l f)
total-split n l f lt =
    let alone = λ (q : ℕ). cond (eqb q l) (f q) 0 in
    total-same n f (λ q. alone q + without l f q)
    (λ q below. ⊎_elim
    (λ e. let x : alone q ≡ f q = cond-true (eqb q l) (f q) 0 (eq-eqb q l e) in let y : without l f q ≡ 0 = cond-true (eqb q l) 0 (f q) (eq-eqb q l e) in omega arith)
    (λ ne. let x : alone q ≡ 0 = cond-false (eqb q l) (f q) 0 (ne_eqb q l ne) in let y : without l f q ≡ f q = without-other l f q ne in omega arith)
    (cases_eq q l))
    ∙ total-plus n alone (without l f)
    ∙ ap (λ s. s + total n (without l f))
    (total-one n l alone lt (λ q below ne. cond-false (eqb q l) (f q) 0 (ne_eqb q l ne)) ∙ cond-true (eqb l l) (f l) 0 (eq-eqb l l refl))

-- equal sums with equal rests have equal first parts
pub cancel-mod : (p u v s : ℕ) → 1 ≤ p → (u + s) % p ≡ (v + s) % p → u % p ≡ v % p
cancel-mod p u v s pos e =
    let full : (w : ℕ) → (w + s) + (p - 1) * s ≡ w + p * s =
    λ w. let q : 1 + (p - 1) ≡ p = omega arith in omega (arith, ap (λ y. y * s) q) in
    sym (add-mul-mod_self_left u p s) ∙ ap (λ y. y % p) (sym (full u))
    ∙ sym (mod-add-mod (u + s) p ((p - 1) * s)) ∙ ap (λ y. (y + (p - 1) * s) % p) e ∙ mod-add-mod (v + s) p ((p - 1) * s)
    ∙ ap (λ y. y % p) (full v) ∙ add-mul-mod_self_left v p s

module _ (p r n w k : ℕ) (m u t : ℕ → ℕ → ℕ) (lead free : ℕ → ℕ) (big : 2 ≤ p) (h : IsReducedBy p r n u lead) (F : IsFree r n k lead free) (T : IsNullTable p r n k u lead free t) where
  free_once : (i l : ℕ) → i < k → l < k → i ≢ l → free l ≢ free i
  free_once i l a b ne e = ⊎_elim
      (λ less. omega (arith, F.falling i l less b, e))
      (λ ge. omega (arith, F.falling l i (let x : l < i = omega arith in x) a, e))
      (cases_lt i l)

  table_reduced : IsReducedBy p k n t (λ i. n - 1 - free i)
  table_reduced = record {
    residues = λ i c lt below. ⊎_elim
        (λ f. let e : n - 1 - lead f.0 ≡ c = omega (arith, f.2) in subst (λ y. t i y < p) e (subst (λ y. y < p) (sym (T.minus i f.0 lt f.1)) (mod-lt (p - u f.0 (free i)) (let o : 1 ≤ p = omega arith in o))))
        (λ f. let e : n - 1 - free f.0 ≡ c = omega (arith, f.2) in subst (λ y. t i y < p) e
        (⊎_elim (λ same. subst (λ y. t i (n - 1 - free y) < p) same (omega (arith, T.one i lt)))
        (λ ne. omega (arith, T.zero i f.0 lt f.1 ne)) (cases_eq i f.0)))
        (F.every (n - 1 - c) (omega arith));
    inside = λ i lt. omega (arith, F.inside i lt);
    rising = λ i l lt below. omega (arith, F.falling i l lt below, F.inside i (omega arith));
    before = λ i c lt below. ⊎_elim
        (λ f. let e : n - 1 - lead f.0 ≡ c = omega (arith, f.2) in
        ap (t i) (sym e) ∙ T.minus i f.0 lt f.1 ∙ ap (λ y. (p - y) % p) (h.before f.0 (free i) f.1 (omega (arith, f.2))) ∙ ap (λ y. y % p) (let q : p - 0 ≡ p = omega arith in q) ∙ mod_self p)
        (λ f. let e : n - 1 - free f.0 ≡ c = omega (arith, f.2) in
        ap (t i) (sym e) ∙ T.zero i f.0 lt f.1 (λ same. let x = ap free same in omega (arith, f.2)))
        (F.every (n - 1 - c) (omega arith));
    one = λ i lt. T.one i lt;
    clear = λ i l lt below ne. T.zero i l lt below ne;
  }

  -- a column that is neither lead a nor free
  other_lead : (a q : ℕ) → a < r → q < n → q ≢ lead a → ((i : ℕ) → i < k → free i ≢ q) → u a q ≡ 0
  other_lead a q lt below ne none = ⊎_elim
      (λ f. ap (u a) (sym f.2) ∙ h.clear a f.0 lt f.1 (λ e. ne (sym f.2 ∙ ap lead (sym e))))
      (λ f. absurd (none f.0 f.1 f.2))
      (F.every q below)

  -- row i, read backwards, is 0 on each row of the reduced form
  table_null : (i a : ℕ) → i < k → a < r → total n (λ q. u a q * t i (n - 1 - q)) % p ≡ 0
  table_null i a lt la =
      let g = λ (q : ℕ). u a q * t i (n - 1 - q) in
      let rest : total n (without (lead a) g) ≡ u a (free i) =
      total-one n (free i) (without (lead a) g) (F.inside i lt)
      (λ q below ne. ⊎_elim
      (λ e. ap (without (lead a) g) e ∙ without-here (lead a) g)
      (λ nl. without-other (lead a) g q nl ∙ ⊎_elim
      (λ f. ap (λ y. y * t i (n - 1 - q)) (ap (u a) (sym f.2) ∙ h.clear a f.0 la f.1 (λ e. nl (sym f.2 ∙ ap lead (sym e)))) ∙ zero-mul (t i (n - 1 - q)))
      (λ f. ap (λ y. u a q * y) (ap (λ y. t i (n - 1 - y)) (sym f.2) ∙ T.zero i f.0 lt f.1 (λ e. ne (sym f.2 ∙ ap free (sym e)))) ∙ mul-zero (u a q))
      (F.every q below))
      (cases_eq q (lead a)))
      ∙ without-other (lead a) g (free i) (λ e. F.apart a i la lt (sym e))
      ∙ ap (λ y. u a (free i) * y) (T.one i lt) ∙ mul-one (u a (free i)) in
      ap (λ y. y % p) (total-split n (lead a) g (h.inside a la) ∙ ap (λ y. g (lead a) + y) rest)
      ∙ ap (λ y. (y + u a (free i)) % p) (ap (λ y. y * t i (n - 1 - lead a)) (h.one a la) ∙ one-mul (t i (n - 1 - lead a)) ∙ T.minus i a lt la)
      ∙ mod-add-mod (p - u a (free i)) p (u a (free i))
      ∙ ap (λ y. y % p) (let e : p - u a (free i) + u a (free i) ≡ p = omega (arith, h.residues a (free i) la (F.inside i lt)) in e)
      ∙ mod_self p

  module _ (there : (a : ℕ) → a < r → InSpan p w n (λ j c. m (n - 1 - c) j) (u a)) (back : (j : ℕ) → j < w → InSpan p r n u (λ c. m (n - 1 - c) j)) where
    row_null : (i : ℕ) → i < k → IsNull p n w m (t i)
    row_null i lt j below =
        ap (λ y. y % p) (total-reverse n (λ c. t i c * m c j)
        ∙ total-same n (λ q. t i (n - 1 - q) * m (n - 1 - q) j) (λ q. m (n - 1 - q) j * t i (n - 1 - q)) (λ q inner. mul_comm (t i (n - 1 - q)) (m (n - 1 - q) j)))
        ∙ relation_in_span p r n u (λ c. m (n - 1 - c) j) (λ q. t i (n - 1 - q)) (back j below) (λ a la. table_null i a lt la)

    -- what is null for M, read backwards, is 0 on each row of the reduced form
    null_turned : (x : ℕ → ℕ) → IsNull p n w m x → (a : ℕ) → a < r → total n (λ q. u a q * x (n - 1 - q)) % p ≡ 0
    null_turned x z a la =
        relation_in_span p w n (λ j c. m (n - 1 - c) j) (u a) (λ q. x (n - 1 - q)) (there a la)
        (λ j below. ap (λ y. y % p) (total-same n (λ q. m (n - 1 - q) j * x (n - 1 - q)) (λ q. x (n - 1 - q) * m (n - 1 - q) j) (λ q inner. mul_comm (m (n - 1 - q) j) (x (n - 1 - q)))
        ∙ sym (total-reverse n (λ c. x c * m c j))) ∙ z j below)

    all_spanned : (x : ℕ → ℕ) → IsNull p n w m x → InSpan p k n t x
    all_spanned x z =
        let y = λ (c : ℕ). total k (λ i. x (n - 1 - free i) * t i c) in
        let y-null : IsNull p n w m y =
        λ j below. relation_in_span p k n t y (λ c. m c j) (λ i. x (n - 1 - free i), λ c lt. refl) (λ i lt. row_null i lt j below) in
        let at-free : (l : ℕ) → l < k → y (n - 1 - free l) ≡ x (n - 1 - free l) =
        λ l lt. total-one k l (λ i. x (n - 1 - free i) * t i (n - 1 - free l)) lt
        (λ i below ne. ap (λ s. x (n - 1 - free i) * s) (T.zero i l below lt ne) ∙ mul-zero (x (n - 1 - free i)))
        ∙ ap (λ s. x (n - 1 - free l) * s) (T.one l lt) ∙ mul-one (x (n - 1 - free l)) in
        let at-lead : (a : ℕ) → a < r → y (n - 1 - lead a) % p ≡ x (n - 1 - lead a) % p =
        λ a la.
        let gx = λ (q : ℕ). u a q * x (n - 1 - q) in
        let gy = λ (q : ℕ). u a q * y (n - 1 - q) in
        let rests : total n (without (lead a) gy) ≡ total n (without (lead a) gx) =
        total-same n (without (lead a) gy) (without (lead a) gx)
        (λ q below. ⊎_elim
        (λ e. ap (without (lead a) gy) e ∙ without-here (lead a) gy ∙ sym (ap (without (lead a) gx) e ∙ without-here (lead a) gx))
        (λ nl. without-other (lead a) gy q nl ∙ ⊎_elim
        (λ f. let none = ap (u a) (sym f.2) ∙ h.clear a f.0 la f.1 (λ e. nl (sym f.2 ∙ ap lead (sym e))) in
        ap (λ s. s * y (n - 1 - q)) none ∙ zero-mul (y (n - 1 - q)) ∙ sym (ap (λ s. s * x (n - 1 - q)) none ∙ zero-mul (x (n - 1 - q))))
        (λ f. ap (λ s. u a q * s) (ap (λ s. y (n - 1 - s)) (sym f.2) ∙ at-free f.0 f.1 ∙ ap (λ s. x (n - 1 - s)) f.2))
        (F.every q below)
        ∙ sym (without-other (lead a) gx q nl))
        (cases_eq q (lead a))) in
        let first : (v : ℕ → ℕ) → u a (lead a) * v (n - 1 - lead a) ≡ v (n - 1 - lead a) =
        λ v. ap (λ s. s * v (n - 1 - lead a)) (h.one a la) ∙ one-mul (v (n - 1 - lead a)) in
        let sum-x : (x (n - 1 - lead a) + total n (without (lead a) gx)) % p ≡ 0 =
        ap (λ s. (s + total n (without (lead a) gx)) % p) (sym (first x)) ∙ ap (λ s. s % p) (sym (total-split n (lead a) gx (h.inside a la))) ∙ null_turned x z a la in
        let sum-y : (y (n - 1 - lead a) + total n (without (lead a) gx)) % p ≡ 0 =
        ap (λ s. (y (n - 1 - lead a) + s) % p) (sym rests)
        ∙ ap (λ s. (s + total n (without (lead a) gy)) % p) (sym (first y)) ∙ ap (λ s. s % p) (sym (total-split n (lead a) gy (h.inside a la))) ∙ null_turned y y-null a la in
        cancel-mod p (y (n - 1 - lead a)) (x (n - 1 - lead a)) (total n (without (lead a) gx)) (omega arith) (sum-y ∙ sym sum-x) in (
          λ i. x (n - 1 - free i),
          λ c lt. ⊎_elim
              (λ f. let e : n - 1 - lead f.0 ≡ c = omega (arith, f.2) in ap (λ s. y s % p) (sym e) ∙ at-lead f.0 f.1 ∙ ap (λ s. x s % p) e)
              (λ f. let e : n - 1 - free f.0 ≡ c = omega (arith, f.2) in ap (λ s. y s % p) (sym e) ∙ ap (λ s. s % p) (at-free f.0 f.1) ∙ ap (λ s. x s % p) e)
              (F.every (n - 1 - c) (omega arith)),
        )

-- the transpose of M, of n rows, with its columns in reverse order
abbrev pub turned_table : ℕ → Grid → ℕ → ℕ → ℕ
turned_table n m j c = entry m.entries (n - 1 - c) j

pub null_rows_by_transpose : {p n w : ℕ} {m : Grid} → 2 ≤ p → IsMatrixOf p n w m → (r k : ℕ) (u t : ℕ → ℕ → ℕ) (lead free : ℕ → ℕ)
    → IsReducedBy p r n u lead
    → ((a : ℕ) → a < r → InSpan p w n (turned_table n m) (u a))
    → ((j : ℕ) → j < w → InSpan p r n u (turned_table n m j))
    → IsFree r n k lead free → IsNullTable p r n k u lead free t
    → IsNullBasis m (matrix_by p k n t)
null_rows_by_transpose {p} {n} {w} {m} big M r k u t lead free h there back F T =
    basis-from-table k t (λ i. n - 1 - free i) (omega arith) M
    (table_reduced p r n w k (entry m.entries) u t lead free big h F T)
    (row_null p r n w k (entry m.entries) u t lead free big h F T there back)
    (all_spanned p r n w k (entry m.entries) u t lead free big h F T there back)
