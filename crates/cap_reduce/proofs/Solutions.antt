-- The solution of x·M = v that is 0 at each row in the span of those before: there is exactly one where there is any.
use Rattle.std.proofs.Common.{◌≡◌, ◌≢◌, ℕ, ◌*◌, ◌%◌, ◌<◌, ◌≤◌, true, List, get_or, sym, ap, ◌∙◌, subst, arith, ⊎_elim}
use Rattle.std.proofs.lemmas.Nat.{mul-mod_first, mul-mod_second}
use Rattle.std.proofs.lemmas.List.{ext_get_or}
use Rattle.std.proofs.lemmas.Bool.{cases_lt}
use Rattle.std.proofs.Math.Nat.{mod-lt, mod-eq_of_lt, mul_comm, one-mul, mul-zero, zero-mul}
use Rattle.cap_field.specs.Residue.{is_tabled}
use Rattle.cap_field.proofs.Fermat.{tabled_range}
use Rattle.cap_matrix.specs.Grid.{Grid, IsMatrix, entry, total, row_by, row_times}
use Rattle.cap_matrix.proofs.Sums.{total-same, total-zeros, total-swap, total-scale_right, total-mod, total-one, times_assoc}
use Rattle.cap_matrix.proofs.Rows.{length-row_by, row_by-at, row_by-same}
use Rattle.cap_matrix.specs.Reduced.{InSpan, IsInSpan, IsReducedBy, IsSolution}
use Rattle.cap_reduce.proofs.Unique.{find_among, known_at_leads}
use Rattle.cap_reduce.proofs.Columns.{factor, column_by_leads, lead_is_new}
use Rattle.cap_reduce.specs.Laws.{SolutionExists, OneSolution}
use Rattle.cap_matrix.proofs.Entries.{delta, delta-same, delta-other}
use Rattle.cap_reduce.proofs.Eliminate.{HasReduced, has_reduced}
use Rattle.cap_reduce.proofs.Inverses.{inverses}

-- sums over the columns of a member of a span are those of the rows, combined
pub span_value : (p n m : ℕ) (t : ℕ → ℕ → ℕ) (v y : ℕ → ℕ) → (s : InSpan p n m t v)
    → total m (λ c. v c * y c) % p ≡ total n (λ i. s.0 i * (total m (λ c. t i c * y c) % p)) % p
span_value p n m t v y s =
    total-mod p m (λ c. v c * y c) (λ c. (total n (λ i. s.0 i * t i c) % p) * y c)
    (λ c lt. sym (mul-mod_first (v c) (y c) p) ∙ ap (λ w. (w * y c) % p) (sym (s.1 c lt)))
    ∙ times_assoc p n m s.0 t (λ c k. y c) 0

-- a combination of columns that gives a column for the rows of t gives it for each member of the span
pub column_of_member : (p n m : ℕ) (t : ℕ → ℕ → ℕ) (v y : ℕ → ℕ) (k d : ℕ) → InSpan p n m t v → d < m → k ≤ m
    → ((i : ℕ) → i < n → total k (λ c. y c * t i c) % p ≡ t i d % p) → total k (λ c. y c * v c) % p ≡ v d % p
column_of_member p n m t v y k d s dm km h =
    ap (λ z. z % p) (total-same k (λ c. y c * v c) (λ c. v c * y c) (λ c lt. mul_comm (y c) (v c)))
    ∙ span_value p n k t v y (s.0, λ c lt. s.1 c (omega arith))
    ∙ total-mod p n (λ i. s.0 i * (total k (λ c. t i c * y c) % p)) (λ i. s.0 i * t i d)
    (λ i lt. ap (λ z. (s.0 i * z) % p) (ap (λ z. z % p) (total-same k (λ c. t i c * y c) (λ c. y c * t i c) (λ c below. mul_comm (t i c) (y c))) ∙ h i lt) ∙ mul-mod_second (s.0 i) (t i d) p)
    ∙ s.1 d dm

-- M has n rows and w columns; u is the reduced form of its transpose
module _ (p n w r : ℕ) (m u : ℕ → ℕ → ℕ) (lead : ℕ → ℕ) (big : 2 ≤ p) (h : IsReducedBy p r n u lead)
    (there : (a : ℕ) → a < r → InSpan p w n (λ j i. m i j) (u a)) (back : (j : ℕ) → j < w → InSpan p r n u (λ i. m i j)) where
  lead_apart : (a b : ℕ) → a < r → b < r → a ≢ b → lead a ≢ lead b
  lead_apart a b la lb ne e = ⊎_elim
      (λ less. omega (arith, h.rising a b less lb, e))
      (λ ge. omega (arith, h.rising b a (let x : b < a = omega arith in x) la, e))
      (cases_lt a b)

  -- the leads are the rows outside the span of those before
  pub lead_is_outside : (a : ℕ) → a < r → InSpan p (lead a) w m (m (lead a)) → ⊥
  lead_is_outside a la s =
      lead_is_new p r n u lead s.0 a big h la
      (column_of_member p w n (λ j i. m i j) (u a) s.0 (lead a) (lead a) (there a la) (h.inside a la) (omega (arith, h.inside a la)) (λ j lt. s.1 j lt))

  pub other_is_inside : (d : ℕ) → d < n → ((a : ℕ) → a < r → lead a ≢ d) → InSpan p d w m (m d)
  other_is_inside d lt none = (
    factor u lead r d,
    λ j below. column_of_member p r n u (λ i. m i j) (factor u lead r d) d d (back j below) lt (omega arith)
        (λ a la. ap (λ z. z % p) (column_by_leads p r n u lead d h none a la)),
  )

  -- from any solution y, the one on the leads alone
  at_lead : (ℕ → ℕ) → ℕ → ℕ
  at_lead y a = total n (λ c. y c * u a c) % p

  moved : (ℕ → ℕ) → ℕ → ℕ
  unfolding at_lead
  moved y i = total r (λ a. delta i (lead a) * at_lead y a)

  moved-lead : (y : ℕ → ℕ) (a : ℕ) → a < r → moved y (lead a) ≡ at_lead y a
  unfolding moved
  moved-lead y a la =
      total-one r a (λ b. delta (lead a) (lead b) * at_lead y b) la
      (λ b lb ne. ap (λ z. z * at_lead y b) (delta-other (lead a) (lead b) (λ e. lead_apart a b la lb (λ x. ne (sym x)) e)) ∙ zero-mul (at_lead y b))
      ∙ ap (λ z. z * at_lead y a) (delta-same (lead a)) ∙ one-mul (at_lead y a)

  moved-other : (y : ℕ → ℕ) (i : ℕ) → ((a : ℕ) → a < r → lead a ≢ i) → moved y i ≡ 0
  unfolding moved
  moved-other y i none =
      total-zeros r (λ b. delta i (lead b) * at_lead y b) (λ b lb. ap (λ z. z * at_lead y b) (delta-other i (lead b) (λ e. none b lb (sym e))) ∙ zero-mul (at_lead y b))

  moved-small : (y : ℕ → ℕ) (i : ℕ) → moved y i < p
  unfolding at_lead
  moved-small y i = ⊎_elim
      (λ f. subst (λ z. moved y z < p) f.2 (subst (λ z. z < p) (sym (moved-lead y f.0 f.1)) (mod-lt (total n (λ c. y c * u f.0 c)) (let o : 1 ≤ p = omega arith in o))))
      (λ none. omega (arith, moved-other y i none))
      (find_among lead r i)

  moved-gives : (y : ℕ → ℕ) (j : ℕ) → j < w → total n (λ i. moved y i * m i j) % p ≡ total n (λ i. y i * m i j) % p
  unfolding moved at_lead
  moved-gives y j below =
      ap (λ z. z % p)
      (total-same n (λ i. moved y i * m i j) (λ i. total r (λ a. delta i (lead a) * at_lead y a * m i j)) (λ i lt. sym (total-scale_right r (m i j) (λ a. delta i (lead a) * at_lead y a)))
      ∙ total-swap n r (λ i a. delta i (lead a) * at_lead y a * m i j)
      ∙ total-same r (λ a. total n (λ i. delta i (lead a) * at_lead y a * m i j)) (λ a. at_lead y a * m (lead a) j)
      (λ a la. total-one n (lead a) (λ i. delta i (lead a) * at_lead y a * m i j) (h.inside a la)
      (λ i lt ne. ap (λ z. z * at_lead y a * m i j) (delta-other i (lead a) ne) ∙ ap (λ z. z * m i j) (zero-mul (at_lead y a)) ∙ zero-mul (m i j))
      ∙ ap (λ z. z * at_lead y a * m (lead a) j) (delta-same (lead a)) ∙ ap (λ z. z * m (lead a) j) (one-mul (at_lead y a))))
      ∙ times_assoc p n r y (λ c a. u a c) (λ a k. m (lead a) k) j
      ∙ total-mod p n (λ c. y c * (total r (λ a. u a c * m (lead a) j) % p)) (λ c. y c * m c j)
      (λ c lt. ap (λ z. (y c * z) % p)
      (ap (λ z. z % p) (total-same r (λ a. u a c * m (lead a) j) (λ a. m (lead a) j * u a c) (λ a la. mul_comm (u a c) (m (lead a) j)))
      ∙ known_at_leads p r n u lead (λ i. m i j) h (back j below) c lt)
      ∙ mul-mod_second (y c) (m c j) p)

  -- a solution on the leads alone is known at each lead
  lead_value : (x : ℕ → ℕ) → ((i : ℕ) → i < n → ((a : ℕ) → a < r → lead a ≢ i) → x i ≡ 0) → (a : ℕ) → a < r → total n (λ i. u a i * x i) ≡ x (lead a)
  lead_value x bare a la =
      total-one n (lead a) (λ i. u a i * x i) (h.inside a la)
      (λ i lt ne. ⊎_elim
      (λ f. ap (λ z. z * x i) (ap (u a) (sym f.2) ∙ h.clear a f.0 la f.1 (λ e. ne (sym f.2 ∙ ap lead (sym e)))) ∙ zero-mul (x i))
      (λ none. ap (λ z. u a i * z) (bare i lt none) ∙ mul-zero (u a i))
      (find_among lead r i))
      ∙ ap (λ z. z * x (lead a)) (h.one a la) ∙ one-mul (x (lead a))

  solutions_agree : (x y : ℕ → ℕ) → ((i : ℕ) → i < n → ((a : ℕ) → a < r → lead a ≢ i) → x i ≡ 0) → ((i : ℕ) → i < n → ((a : ℕ) → a < r → lead a ≢ i) → y i ≡ 0)
      → ((j : ℕ) → j < w → total n (λ i. x i * m i j) % p ≡ total n (λ i. y i * m i j) % p) → (i : ℕ) → i < n → x i % p ≡ y i % p
  solutions_agree x y bx by e i lt =
      let flip : (z : ℕ → ℕ) (j : ℕ) → total n (λ c. m c j * z c) % p ≡ total n (λ c. z c * m c j) % p =
      λ z j. ap (λ s. s % p) (total-same n (λ c. m c j * z c) (λ c. z c * m c j) (λ c below. mul_comm (m c j) (z c))) in
      ⊎_elim
      (λ f.
      let s = there f.0 f.1 in
      ap (λ z. x z % p) (sym f.2)
      ∙ ap (λ z. z % p) (sym (lead_value x bx f.0 f.1))
      ∙ span_value p w n (λ j i. m i j) (u f.0) x s
      ∙ ap (λ z. z % p) (total-same w (λ j. s.0 j * (total n (λ c. m c j * x c) % p)) (λ j. s.0 j * (total n (λ c. m c j * y c) % p))
      (λ j below. ap (λ z. s.0 j * z) (flip x j ∙ e j below ∙ sym (flip y j))))
      ∙ sym (span_value p w n (λ j i. m i j) (u f.0) y s)
      ∙ ap (λ z. z % p) (lead_value y by f.0 f.1)
      ∙ ap (λ z. y z % p) f.2)
      (λ none. ap (λ z. z % p) (bx i lt none ∙ sym (by i lt none)))
      (find_among lead r i)

reduced_transpose : (p : ℕ) → is_tabled p ≡ true → (m : Grid) → IsMatrix p m → HasReduced p m.column_count m.row_count (λ j i. entry m.entries i j)
reduced_transpose p t m IM = has_reduced p m.column_count m.row_count (λ j i. entry m.entries i j) (tabled_range p t).0 (inverses p t) (λ j i below lt. IM.residues i j lt below)

-- the product with a list, modulo p
pub times-at : {p : ℕ} {m : Grid} → IsMatrix p m → (x : List ℕ) (j : ℕ) → j < m.column_count → get_or (row_times x m) j 0 ≡ total m.row_count (λ i. get_or x i 0 * entry m.entries i j) % p
times-at {p} {m} IM x j lt =
    row_by-at m.column_count (λ j. total m.row_count (λ i. get_or x i 0 * entry m.entries i j) % m.prime) j lt
    ∙ ap (λ q. total m.row_count (λ i. get_or x i 0 * entry m.entries i j) % q) IM.prime

pub solution_exists : SolutionExists
solution_exists p t m v IM s =
    let big : 2 ≤ p = (tabled_range p t).0 in
    let n = m.row_count in
    let w = m.column_count in
    let e = entry m.entries in
    let h = reduced_transpose p t m IM in
    let y = λ (i : ℕ). get_or s.0 i 0 in
    let f = moved p n w h.count e h.table h.lead big h.reduced h.there h.back y in
    let x = row_by n f in
    let at = λ (i : ℕ) (lt : i < n). row_by-at n f i lt in
    record {
      row = x;
      is = record {
        long = length-row_by n f;
        residues = λ i lt. subst (λ z. z < m.prime) (sym (at i lt)) (subst (λ q. f i < q) (sym IM.prime) (moved-small p n w h.count e h.table h.lead big h.reduced h.there h.back y i));
        gives = sym (s.2 ∙ row_by-same w (λ j. total n (λ i. get_or s.0 i 0 * e i j) % m.prime) (λ j. total n (λ i. get_or x i 0 * e i j) % m.prime)
            (λ j below. ap (λ q. total n (λ i. y i * e i j) % q) IM.prime
            ∙ sym (moved-gives p n w h.count e h.table h.lead big h.reduced h.there h.back y j below)
            ∙ ap (λ z. z % p) (total-same n (λ i. f i * e i j) (λ i. get_or x i 0 * e i j) (λ i lt. ap (λ z. z * e i j) (sym (at i lt))))
            ∙ ap (λ q. total n (λ i. get_or x i 0 * e i j) % q) (sym IM.prime)));
        bare = λ i lt inside. at i lt ∙ moved-other p n w h.count e h.table h.lead big h.reduced h.there h.back y i
            (λ a la same. lead_is_outside p n w h.count e h.table h.lead big h.reduced h.there h.back a la
            (subst (λ z. InSpan p z w e (e z)) (sym same) (subst (λ q. InSpan q i w e (e i)) IM.prime inside)));
      };
    }

pub one_solution : OneSolution
one_solution p t m v x y IM X Y =
    let big : 2 ≤ p = (tabled_range p t).0 in
    let n = m.row_count in
    let w = m.column_count in
    let e = entry m.entries in
    let h = reduced_transpose p t m IM in
    let bare : (z : List ℕ) → IsSolution m v z → (i : ℕ) → i < n → ((a : ℕ) → a < h.count → h.lead a ≢ i) → get_or z i 0 ≡ 0 =
    λ z Z i lt none. Z.bare i lt (subst (λ q. InSpan q i w e (e i)) (sym IM.prime) (other_is_inside p n w h.count e h.table h.lead big h.reduced h.there h.back i lt none)) in
    let agree = solutions_agree p n w h.count e h.table h.lead big h.reduced h.there h.back (λ i. get_or x i 0) (λ i. get_or y i 0) (bare x X) (bare y Y)
    (λ j below. sym (times-at IM x j below) ∙ ap (λ r. get_or r j 0) (X.gives ∙ sym Y.gives) ∙ times-at IM y j below) in
    ext_get_or 0 x y (X.long ∙ sym Y.long)
    (λ i lt. let inner : i < n = omega (arith, X.long) in
    let sx : get_or x i 0 < p = subst (λ q. get_or x i 0 < q) IM.prime (X.residues i inner) in
    let sy : get_or y i 0 < p = subst (λ q. get_or y i 0 < q) IM.prime (Y.residues i inner) in
    sym (mod-eq_of_lt sx) ∙ agree i inner ∙ mod-eq_of_lt sy)

-- and only a row in the span has one
pub solution_in_span : (m : Grid) (v x : List ℕ) → IsSolution m v x → IsInSpan m v
solution_in_span m v x s = (x, s.long, sym s.gives)
