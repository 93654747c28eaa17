-- A quiver with relations has one table.
use Rattle.std.proofs.Common.{◌≡◌, ◌⊎◌, inl, inr, ℕ, ◌*◌, ◌/◌, ◌%◌, ◌<◌, ◌≤◌, List, [], ◌∷◌, length, get_or, refl, sym, ap, ◌∙◌, subst, arith, ⊎_elim}
use Rattle.std.specs.List.{Contains}
use Rattle.std.proofs.lemmas.List.{get_or_default, ext_get_or}
use Rattle.std.proofs.lemmas.Nat.{div_below}
use Rattle.std.proofs.lemmas.Bool.{cases_lt, cases_eq}
use Rattle.cap_laws.specs.Table.{TableData, ends_of}
use Rattle.cap_matrix.specs.Reduced.{InSpan}
use Rattle.cap_matrix.proofs.Sums.{total-same}
use Rattle.cap_matrix.proofs.Writes.{some_below}
use Rattle.cap_reduce.proofs.Unique.{same_rising}
use Rattle.cap_quiver_laws.specs.Paths.{QuiverData, Path, IsWalk, IsBefore, IsEarlier, path_of, IsPathList, IsNumbering}
use Rattle.cap_quiver_laws.specs.Quotient.{path_at, IsCongruent, IsDependent, IsBasis, path_vector, PathNumbers, IsQuotient, IsSameTable}
use Rattle.cap_quiver_laws.specs.Ideal.{Relations, term_of, IsRelation, IsTermNumbers, relation_row, ideal_rows, ideal_table}
use Rattle.cap_quiver_laws.specs.QuiverTable.{IsQuiverTable}
use Rattle.cap_quiver_laws.proofs.Numbering.{earlier-itself, path}
use Rattle.cap_quiver_laws.proofs.OneQuotient.{quotient-one}

-- of two paths only one is earlier
before-both : (xs ys : List ℕ) → IsBefore xs ys → IsBefore ys xs → ⊥
before-both [] ys h k = h
before-both (x ∷ xs) [] h k = h
before-both (x ∷ xs) (y ∷ ys) h k = ⊎_elim
    (λ less. ⊎_elim (λ more. omega (arith, less, more)) (λ e. omega (arith, less, e.0)) k)
    (λ e. ⊎_elim (λ more. omega (arith, more, e.0)) (λ f. before-both xs ys e.1 f.1) k)
    h

pub earlier-both : (P R : Path) → IsEarlier P R → IsEarlier R P → ⊥
earlier-both P R h k = ⊎_elim
    (λ less. ⊎_elim (λ more. omega (arith, less, more)) (λ e. omega (arith, less, e.0)) k)
    (λ e. ⊎_elim
    (λ more. omega (arith, more, e.0))
    (λ f. ⊎_elim
    (λ b. ⊎_elim (λ c. before-both P.arrows R.arrows b c) (λ c. before-both P.arrows P.arrows (subst (λ xs. IsBefore P.arrows xs) c.0 b) (subst (λ xs. IsBefore P.arrows xs) c.0 b)) f.1)
    (λ b. ⊎_elim (λ c. before-both P.arrows P.arrows (subst (λ xs. IsBefore xs P.arrows) (sym b.0) c) (subst (λ xs. IsBefore xs P.arrows) (sym b.0) c)) (λ c. omega (arith, b.1, c.1)) f.1)
    e.1)
    k)
    h

-- a path in a list stands at some place of it
pub path-place : (ps : List Path) (P : Path) → Contains ps P → (k : ℕ) × (k < length ps) × (path_of ps k ≡ P)
path-place ps P s = (s.0, s.1, sym (get_or_default ps s.0 P (path 0 []) s.1) ∙ s.2)

-- in lists of paths in order the places of the same paths are in order
places-rise : (ps qs : List Path) (a b c d : ℕ) → ((a b : ℕ) → a < b → b < length ps → IsEarlier (path_of ps a) (path_of ps b)) → ((a b : ℕ) → a < b → b < length qs → IsEarlier (path_of qs a) (path_of qs b))
    → a < b → b < length ps → c < length qs → d < length qs → path_of qs c ≡ path_of ps a → path_of qs d ≡ path_of ps b → c < d
places-rise ps qs a b c d up rise less lb lc ld ea eb = ⊎_elim
    (λ h. h)
    (λ ge. absurd (⊎_elim
    (λ (same : c ≡ d). earlier-itself (path_of ps b) (subst (λ P. IsEarlier P (path_of ps b)) (sym ea ∙ ap (λ k. path_of qs k) same ∙ eb) (up a b less lb)))
    (λ apart. earlier-both (path_of ps a) (path_of ps b) (up a b less lb)
    (subst (λ P. IsEarlier P (path_of ps a)) eb (subst (λ P. IsEarlier (path_of qs d) P) ea (rise d c (omega (arith, ge, apart)) lc))))
    (cases_eq c d)))
    (cases_lt c d)

module _ (Q : QuiverData) where
  -- a path stands at one place of their list
  pub one-place : (ps : List Path) → IsPathList Q ps → (a b : ℕ) → a < length ps → b < length ps → path_of ps a ≡ path_of ps b → a ≡ b
  one-place ps L a b la lb e = ⊎_elim
      (λ same. same)
      (λ apart. absurd (⊎_elim
      (λ less. earlier-itself (path_of ps b) (subst (λ P. IsEarlier P (path_of ps b)) e (L.rising a b less lb)))
      (λ ge. earlier-itself (path_of ps a) (subst (λ P. IsEarlier P (path_of ps a)) (sym e) (L.rising b a (omega (arith, ge, apart)) la)))
      (cases_lt a b)))
      (cases_eq a b)

  -- a quiver has one list of paths
  pub one-path-list : (ps qs : List Path) → IsPathList Q ps → IsPathList Q qs → ps ≡ qs
  one-path-list ps qs L M =
      let find : (a : ℕ) → a < length ps → (k : ℕ) × (k < length qs) × (path_of qs k ≡ path_of ps a) = λ a lt. path-place qs (path_of ps a) (M.every (path_of ps a) (L.paths a lt)) in
      let back : (k : ℕ) → k < length qs → (a : ℕ) × (a < length ps) × (path_of ps a ≡ path_of qs k) = λ k lt. path-place ps (path_of qs k) (L.every (path_of qs k) (M.paths k lt)) in
      let at = λ (a : ℕ). ⊎_elim (λ lt. (find a lt).0) (λ ge. 0) (cases_lt a (length ps)) in
      let at-is : (a : ℕ) → a < length ps → (at a < length qs) × (path_of qs (at a) ≡ path_of ps a) = λ a lt. placed (length ps) (length qs) (λ k. path_of qs k) (λ a. path_of ps a) find a lt (cases_lt a (length ps)) in
      let s = same_rising at (λ k. k) (length ps) (length qs)
      (λ i k less lt.
      let x = at-is i (omega (arith, less, lt)) in
      let y = at-is k lt in
      places-rise ps qs i k (at i) (at k) L.rising M.rising less lt x.0 y.0 x.1 y.1)
      (λ i k less lt. less)
      (λ i lt. (at i, (at-is i lt).0, refl))
      (λ k lt.
      let a = back k lt in
      let x = at-is a.0 a.1 in
      (a.0, a.1, one-place qs M (at a.0) k x.0 lt (x.1 ∙ a.2))) in
      ext_get_or (path 0 []) ps qs s.0 (λ a lt. sym (at-is a lt).1 ∙ ap (λ k. path_of qs k) (s.1 a lt)) where
        placed : (m n : ℕ) (f g : ℕ → Path) (find : (a : ℕ) → a < m → (k : ℕ) × (k < n) × (f k ≡ g a)) (a : ℕ) → a < m → (d : (a < m) ⊎ (m ≤ a)) → ((⊎_elim (λ lt. (find a lt).0) (λ ge. 0) d) < n) × (f (⊎_elim (λ lt. (find a lt).0) (λ ge. 0) d) ≡ g a)
        placed m n f g find a lt (inl below) = ((find a below).1, (find a below).2)
        placed m n f g find a lt (inr past) = absurd (omega (arith, lt, past))

-- a list of arrows that is not empty begins at one object
one-start : (Q : QuiverData) (x y : ℕ) (xs : List ℕ) → (xs ≡ [] → ⊥) → IsWalk Q x xs → IsWalk Q y xs → x ≡ y
one-start Q x y [] some h k = absurd (some refl)
one-start Q x y (a ∷ xs) some h k = sym h.1 ∙ k.1

-- two numberings of one list of paths
module _ (Q : QuiverData) (ps : List Path) (L : IsPathList Q ps) (A B : PathNumbers) (N : IsNumbering Q ps A) (M : IsNumbering Q ps B) where
  pub same-join : (a b : ℕ) → A.join a b ≡ B.join a b
  same-join a b = ⊎_elim
      (λ f. ⊎_elim (λ g. one-place Q ps L (A.join a b) (B.join a b) f.1 g.1 (f.2 ∙ sym g.2)) (λ g. absurd (g.0 f.0)) (M.join a b))
      (λ f. ⊎_elim (λ g. absurd (f.0 g.0)) (λ g. f.1 ∙ sym g.1) (M.join a b))
      (N.join a b)

  pub same-unit : (x : ℕ) → x < Q.objects → A.unit x ≡ B.unit x
  same-unit x lt = one-place Q ps L (A.unit x) (B.unit x) (N.unit x lt).0 (M.unit x lt).0 ((N.unit x lt).1 ∙ sym (M.unit x lt).1)

  -- and of the terms of relations
  module _ (R : Relations) (f g : ℕ → ℕ → ℕ) (F : IsTermNumbers Q ps R f) (G : IsTermNumbers Q ps R g) where
    pub same-term : (r k : ℕ) → IsRelation Q R r → r < R.count → k < length (R.terms r) → f r k ≡ g r k
    same-term r k I lr lk =
        let term = I.terms k lk in
        let xs = (term_of R r k).1 in
        ⊎_elim
        (λ a. ⊎_elim
        (λ b.
        let one : (path_of ps (f r k)).start ≡ (path_of ps (g r k)).start =
        one-start Q (path_of ps (f r k)).start (path_of ps (g r k)).start xs term.some
        (subst (λ ys. IsWalk Q (path_of ps (f r k)).start ys) a.1 (L.paths (f r k) a.0).walk)
        (subst (λ ys. IsWalk Q (path_of ps (g r k)).start ys) b.1 (L.paths (g r k) b.0).walk) in
        one-place Q ps L (f r k) (g r k) a.0 b.0
        (ap (λ x. path x (path_of ps (f r k)).arrows) one ∙ ap (λ ys. path (path_of ps (g r k)).start ys) (a.1 ∙ sym b.1)))
        (λ b. absurd (omega (arith, b.0, (L.paths (f r k) a.0).short, ap length a.1)))
        (G.term r k lr lk))
        (λ a. ⊎_elim
        (λ b. absurd (omega (arith, a.0, (L.paths (g r k) b.0).short, ap length b.1)))
        (λ b. a.1 ∙ sym b.1)
        (G.term r k lr lk))
        (F.term r k lr lk)

    pub same-row : (p r u v q : ℕ) → IsRelation Q R r → r < R.count → relation_row p B R g r u v q ≡ relation_row p A R f r u v q
    same-row p r u v q I lr = ap (λ s. s % p)
        (total-same (length (R.terms r)) (λ k. (term_of R r k).0 * path_at (B.join (B.join u (g r k)) v) q) (λ k. (term_of R r k).0 * path_at (A.join (A.join u (f r k)) v) q)
        (λ k lk. ap (λ s. (term_of R r k).0 * path_at s q)
        (ap (λ s. B.join (B.join u s) v) (sym (same-term r k I lr lk)) ∙ ap (λ s. B.join s v) (sym (same-join u (f r k))) ∙ sym (same-join (A.join u (f r k)) v))))

    -- the rows of the ideal are the same
    pub same-ideal : (p i q : ℕ) → ((r : ℕ) → r < R.count → IsRelation Q R r) → i < ideal_rows A R → ideal_table p B R g i q ≡ ideal_table p A R f i q
    same-ideal p i q good lt =
        let m = A.count in
        let e : B.count ≡ m = M.count ∙ sym N.count in
        let r = i / m / m in
        let some : 0 < m = some_below i (R.count * m) m lt in
        let high : i / m < R.count * m = div_below i m (R.count * m) some lt in
        let below : r < R.count = div_below (i / m) m R.count some high in
        ap (λ k. relation_row p B R g (i / k / k) (i / k % k) (i % k) q) e ∙ same-row p r (i / m % m) (i % m) q (good r below) below

-- where two tables have the same rows, spans, congruences and bases are the same
module _ (p n m : ℕ) (t u : ℕ → ℕ → ℕ) (same : (i j : ℕ) → i < n → j < m → t i j ≡ u i j) where
  span-carried : (v : ℕ → ℕ) → InSpan p n m t v → InSpan p n m u v
  span-carried v s = (s.0, λ j lt. ap (λ x. x % p) (total-same n (λ i. s.0 i * u i j) (λ i. s.0 i * t i j) (λ i li. ap (λ x. s.0 i * x) (sym (same i j li lt)))) ∙ s.1 j lt)

  pub congruent-carried : (v w : ℕ → ℕ) → IsCongruent p n m t v w → IsCongruent p n m u v w
  congruent-carried v w c = record { element = c.element; inside = span-carried c.element c.inside; same = c.same }

  pub dependent-carried : (q : ℕ) → IsDependent p n m t q → IsDependent p n m u q
  dependent-carried q d = record { before = d.before; none = d.none; congruent = congruent-carried (path_at q) d.before d.congruent }

pub basis-carried : (p n m : ℕ) (t u : ℕ → ℕ → ℕ) → ((i j : ℕ) → i < n → j < m → t i j ≡ u i j) → (bs : List ℕ) → IsBasis p n m t bs → IsBasis p n m u bs
basis-carried p n m t u same bs b = record {
  inside = b.inside;
  rising = b.rising;
  decided = λ q lt. ⊎_elim
      (λ h. inl (h.0, λ d. h.1 (dependent-carried p n m u t (λ i j li lj. sym (same i j li lj)) q d)))
      (λ h. inr (h.0, dependent-carried p n m t u same q h.1))
      (b.decided q lt);
}

-- a quotient by the same rows, with the same numbers of paths
pub quotient-carried : (n k : ℕ) (A B : PathNumbers) (t u : ℕ → ℕ → ℕ) (bs : List ℕ) (T : TableData) → n ≡ k → A.count ≡ B.count → A.objects ≡ B.objects
    → ((a : ℕ) → a < A.count → (A.start a ≡ B.start a) × (A.finish a ≡ B.finish a)) → ((x : ℕ) → x < A.objects → A.unit x ≡ B.unit x) → ((a b : ℕ) → A.join a b ≡ B.join a b)
    → ((i j : ℕ) → i < n → j < A.count → t i j ≡ u i j) → IsQuotient n A t bs T → IsQuotient k B u bs T
quotient-carried n k A B t u bs T rows count objects ends units joins same Q =
    let p = T.prime in
    let m = A.count in
    let carry : (v w : ℕ → ℕ) → IsCongruent p n m t v w → IsCongruent p k B.count u v w =
    λ v w c. subst (λ i. IsCongruent p i B.count u v w) rows (subst (λ i. IsCongruent p n i u v w) count (congruent-carried p n m t u same v w c)) in
    record {
      prime = Q.prime;
      objects = Q.objects ∙ objects;
      basis = subst (λ i. IsBasis p i B.count u bs) rows (subst (λ i. IsBasis p n i u bs) count (basis-carried p n m t u same bs Q.basis));
      count = Q.count;
      ends = λ b lt.
          let e = ends (get_or bs b 0) (Q.basis.inside b lt) in
          Q.ends b lt ∙ ap (λ x. (x, A.finish (get_or bs b 0))) e.0 ∙ ap (λ y. (B.start (get_or bs b 0), y)) e.1;
      unit_rows = Q.unit_rows;
      units = λ x lt. subst (λ a. IsCongruent p k B.count u (path_vector T bs x x (T.unit x)) (path_at a)) (units x (omega (arith, lt, Q.objects)))
          (carry (path_vector T bs x x (T.unit x)) (path_at (A.unit x)) (Q.units x lt));
      product_rows = Q.product_rows;
      products = λ i j li lj meet.
          let v = path_vector T bs (ends_of T i).0 (ends_of T j).1 (T.product i j) in
          subst (λ a. IsCongruent p k B.count u v (path_at a)) (joins (get_or bs i 0) (get_or bs j 0))
          (carry v (path_at (A.join (get_or bs i 0) (get_or bs j 0))) (Q.products i j li lj meet));
    }

-- two tables of a quiver
module _ (p : ℕ) (Q : QuiverData) (R : Relations) (T U : TableData) (ps qs : List (List ℕ)) (H : IsQuiverTable p Q R T ps) (G : IsQuiverTable p Q R U qs) where
  paths : G.paths ≡ H.paths
  paths = one-path-list Q G.paths H.paths G.all H.all

  primes : U.prime ≡ T.prime
  primes = G.prime ∙ sym H.prime

  numbered : IsNumbering Q H.paths G.numbers
  numbered = subst (λ l. IsNumbering Q l G.numbers) paths G.numbered

  terms : IsTermNumbers Q H.paths R G.term
  terms = subst (λ l. IsTermNumbers Q l R G.term) paths G.terms

  counts : G.numbers.count ≡ H.numbers.count
  counts = numbered.count ∙ sym H.numbered.count

  carried : IsQuotient (ideal_rows H.numbers R) H.numbers (ideal_table T.prime H.numbers R H.term) G.basis U
  carried = quotient-carried (ideal_rows G.numbers R) (ideal_rows H.numbers R) G.numbers H.numbers (ideal_table U.prime G.numbers R G.term) (ideal_table T.prime H.numbers R H.term) G.basis U
      (ap (λ k. R.count * k * k) counts)
      counts
      (numbered.objects ∙ sym H.numbered.objects)
      (λ a lt. let la : a < length H.paths = omega (arith, lt, numbered.count) in (numbered.start a la ∙ sym (H.numbered.start a la), numbered.finish a la ∙ sym (H.numbered.finish a la)))
      (λ x lt. sym (same-unit Q H.paths H.all H.numbers G.numbers H.numbered numbered x (omega (arith, lt, numbered.objects))))
      (λ a b. sym (same-join Q H.paths H.all H.numbers G.numbers H.numbered numbered a b))
      (λ i j li lj. ap (λ q. ideal_table q G.numbers R G.term i j) primes
      ∙ same-ideal Q H.paths H.all H.numbers G.numbers H.numbered numbered R H.term G.term H.terms terms T.prime i j H.relations (subst (λ k. i < R.count * k * k) counts li))
      G.quotient

  pub table-one : IsSameTable T U × (ps ≡ qs)
  table-one =
      let s = quotient-one (ideal_rows H.numbers R) H.numbers (ideal_table T.prime H.numbers R H.term) H.basis G.basis T U (sym primes) H.quotient carried in (
        s.0,
        ext_get_or [] ps qs (H.count ∙ ap length s.1 ∙ sym G.count)
            (λ b lt.
            let lb : b < length H.basis = omega (arith, lt, H.count) in
            H.arrows b lb ∙ ap (λ bs. (path_of H.paths (get_or bs b 0)).arrows) s.1 ∙ ap (λ (l : List Path). (path_of l (get_or G.basis b 0)).arrows) (sym paths) ∙ sym (G.arrows b (omega (arith, lb, ap length s.1)))),
      )
