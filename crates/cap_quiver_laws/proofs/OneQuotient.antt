-- A quotient has one basis and one table.
use Rattle.std.proofs.Common.{◌≡◌, ℕ, ◌*◌, ◌<◌, eqb, ◌&&◌, List, filter, length, get_or, sym, ap, ◌∙◌, subst, arith, ⊎_elim}
use Rattle.std.specs.List.{range_with_len}
use Rattle.std.proofs.lemmas.List.{ext_get_or}
use Rattle.std.proofs.lemmas.List.Elements.{Contains-get_or}
use Rattle.std.proofs.Math.Nat.{mod-eq_of_lt}
use Rattle.cap_field.proofs.Fermat.{tabled_range}
use Rattle.cap_laws.specs.Table.{TableData, IsRow, ends_of, hom_of}
use Rattle.cap_matrix.specs.Grid.{total}
use Rattle.cap_reduce.proofs.Unique.{same_rising}
use Rattle.cap_quiver_laws.specs.Quotient.{path_at, IsCongruent, IsBasis, path_vector, PathNumbers, IsQuotient, IsSameTable}
use Rattle.cap_quiver_laws.proofs.Congruence.{cong-trans, cong-sym}
use Rattle.cap_quiver_laws.proofs.Unique.{place_in}
use Rattle.cap_quiver_laws.proofs.KnownRows.{rows-known}

-- what one basis has, the other has
shared : {p n m : ℕ} {t : ℕ → ℕ → ℕ} (bs cs : List ℕ) → IsBasis p n m t bs → IsBasis p n m t cs → (i : ℕ) → i < length bs → (k : ℕ) × (k < length cs) × (get_or cs k 0 ≡ get_or bs i 0)
shared bs cs b c i lt =
    let q = get_or bs i 0 in
    ⊎_elim
    (λ h. place_in cs q h.0)
    (λ h. absurd (⊎_elim (λ g. g.1 h.1) (λ g. g.0 (Contains-get_or bs i 0 lt)) (b.decided q (b.inside i lt))))
    (c.decided q (b.inside i lt))

pub one-basis : {p n m : ℕ} {t : ℕ → ℕ → ℕ} (bs cs : List ℕ) → IsBasis p n m t bs → IsBasis p n m t cs → bs ≡ cs
one-basis bs cs b c =
    let s = same_rising (λ i. get_or bs i 0) (λ i. get_or cs i 0) (length bs) (length cs) b.rising c.rising (shared bs cs b c) (shared cs bs c b) in
    ext_get_or 0 bs cs s.0 s.1

-- a row over a Hom as a combination of basis paths, from the basis of the Hom
abbrev spread : List ℕ → List ℕ → List ℕ → ℕ → ℕ
spread hom bs row q = total (length hom) (λ k. get_or row k 0 * path_at (get_or bs (get_or hom k 0) 0) q)

module _ (n : ℕ) (A : PathNumbers) (t : ℕ → ℕ → ℕ) (bs cs : List ℕ) (T U : TableData) (primes : T.prime ≡ U.prime) (Q : IsQuotient n A t bs T) (P : IsQuotient n A t cs U) where
  bases : bs ≡ cs
  bases = one-basis bs cs Q.basis (subst (λ p. IsBasis p n A.count t cs) (sym primes) P.basis)

  elements : T.basis ≡ U.basis
  elements = ext_get_or (0, 0) T.basis U.basis (Q.count ∙ ap length bases ∙ sym P.count)
      (λ b lt.
      let inside : b < length bs = omega (arith, lt, Q.count) in
      Q.ends b inside ∙ ap (λ ds. (A.start (get_or ds b 0), A.finish (get_or ds b 0))) bases ∙ sym (P.ends b (omega (arith, inside, ap length bases))))

  homs : (x y : ℕ) → hom_of T x y ≡ hom_of U x y
  homs x y = ap (λ (es : List (ℕ × ℕ)). filter (λ b. eqb (get_or es b (0, 0)).0 x && eqb (get_or es b (0, 0)).1 y) (range_with_len 0 (length es))) elements

  -- two rows over one Hom that stand for one path are equal
  one-row : (x y q : ℕ) (r s : List ℕ) → IsRow T x y r → IsRow U x y s → IsCongruent T.prime n A.count t (path_vector T bs x y r) (path_at q) → IsCongruent U.prime n A.count t (path_vector U cs x y s) (path_at q) → r ≡ s
  one-row x y q r s R S c d =
      let same : IsCongruent U.prime n A.count t (spread (hom_of T x y) bs s) (path_at q) =
      subst (λ hom. IsCongruent U.prime n A.count t (spread hom bs s) (path_at q)) (sym (homs x y)) (subst (λ ds. IsCongruent U.prime n A.count t (spread (hom_of U x y) ds s) (path_at q)) (sym bases) d) in
      let other : IsCongruent T.prime n A.count t (path_vector T bs x y s) (path_at q) = subst (λ p. IsCongruent p n A.count t (spread (hom_of T x y) bs s) (path_at q)) (sym primes) same in
      let long : length s ≡ length (hom_of T x y) = S.long ∙ sym (ap length (homs x y)) in
      ext_get_or 0 r s (R.long ∙ sym long)
      (λ k lt.
      sym (mod-eq_of_lt (R.residues k lt))
      ∙ rows-known n A t bs T Q.prime Q.count Q.basis x y (λ l. get_or r l 0) (λ l. get_or s l 0) (cong-trans T.prime n A.count t c (cong-sym T.prime n A.count t (omega (arith, (tabled_range T.prime Q.prime).0)) other)) k (omega (arith, lt, R.long))
      ∙ mod-eq_of_lt (omega (arith, S.residues k (omega (arith, lt, R.long, long)), primes)))

  ends : (b : ℕ) → ends_of T b ≡ ends_of U b
  ends b = ap (λ (es : List (ℕ × ℕ)). get_or es b (0, 0)) elements

  same-path : (b : ℕ) → get_or bs b 0 ≡ get_or cs b 0
  same-path b = ap (λ ds. get_or ds b 0) bases

  pub same-table : IsSameTable T U
  same-table = record {
    prime = primes;
    objects = Q.objects ∙ sym P.objects;
    basis = elements;
    units = λ x lt.
        let below : x < U.objects = omega (arith, lt, Q.objects, P.objects) in
        one-row x x (A.unit x) (T.unit x) (U.unit x) (Q.unit_rows x lt) (P.unit_rows x below) (Q.units x lt) (P.units x below);
    products = λ i j li lj meet.
        let ki : i < length bs = omega (arith, li, Q.count) in
        let kj : j < length bs = omega (arith, lj, Q.count) in
        let mi : i < length cs = omega (arith, ki, ap length bases) in
        let mj : j < length cs = omega (arith, kj, ap length bases) in
        let x = (ends_of T i).0 in
        let y = (ends_of T j).1 in
        let from : (ends_of U i).0 ≡ x = ap (λ (e : ℕ × ℕ). e.0) (sym (ends i)) in
        let to : (ends_of U j).1 ≡ y = ap (λ (e : ℕ × ℕ). e.1) (sym (ends j)) in
        let met : (ends_of U i).1 ≡ (ends_of U j).0 = ap (λ (e : ℕ × ℕ). e.1) (sym (ends i)) ∙ meet ∙ ap (λ (e : ℕ × ℕ). e.0) (ends j) in
        one-row x y (A.join (get_or bs i 0) (get_or bs j 0)) (T.product i j) (U.product i j)
        (Q.product_rows i j ki kj meet)
        (subst (λ z. IsRow U x z (U.product i j)) to (subst (λ z. IsRow U z (ends_of U j).1 (U.product i j)) from (P.product_rows i j mi mj met)))
        (Q.products i j ki kj meet)
        (subst (λ a. IsCongruent U.prime n A.count t (path_vector U cs x y (U.product i j)) (path_at (A.join a (get_or bs j 0)))) (sym (same-path i))
        (subst (λ b. IsCongruent U.prime n A.count t (path_vector U cs x y (U.product i j)) (path_at (A.join (get_or cs i 0) b))) (sym (same-path j))
        (subst (λ z. IsCongruent U.prime n A.count t (path_vector U cs x z (U.product i j)) (path_at (A.join (get_or cs i 0) (get_or cs j 0)))) to
        (subst (λ z. IsCongruent U.prime n A.count t (path_vector U cs z (ends_of U j).1 (U.product i j)) (path_at (A.join (get_or cs i 0) (get_or cs j 0)))) from
        (P.products i j mi mj met)))));
  }

  pub quotient-one : IsSameTable T U × (bs ≡ cs)
  quotient-one = (same-table, bases)
