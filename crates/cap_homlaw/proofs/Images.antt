-- A homomorphism structure is linear, so what is linear in a morphism is the product of its row with a matrix.
use Rattle.std.proofs.Common.{◌≡◌, ◌≢◌, ℕ, zero, suc, ◌+◌, ◌*◌, ◌%◌, ◌<◌, ◌≤◌, List, get_or, cond, ltb, refl, sym, ap, ◌∙◌, subst, arith, ⊎_elim}
use Rattle.std.proofs.Math.Nat.{mod-eq_of_lt, mul-mod_right, mul-zero, mul-one, add-zero, zero-add, zero-mod, add-mod}
use Rattle.std.proofs.lemmas.Bool.{cases_lt, cases_eq, cond-true, cond-false, lt-ltb, le-ltb}
use Rattle.cap_field.proofs.Fermat.{tabled_range}
use Rattle.cap_matrix.specs.Grid.{Grid, IsMatrixOf, entry, total, row_by, row_times, matrix_by}
use Rattle.cap_matrix.proofs.Sums.{total-same}
use Rattle.cap_matrix.proofs.Rows.{length-row_by, row_by-at}
use Rattle.cap_matrix.proofs.Entries.{matrix_by-is, matrix_by-at, delta, delta-same, delta-other}
use Rattle.cap_laws.specs.Linear.{CategoryData, IsLinear, Arrow, Same}
use Rattle.cap_laws.proofs.Calculus.{from-object, to-object, same, back, ◌⟫◌ as join, added, scale-prime}
use Rattle.cap_homlaw.specs.Rows.{AreResidues, row_sum, row_scaled, zero_row, unit_row}
use Rattle.cap_homlaw.specs.Hom.{HomData, IsHom, BackIsLinear, basis_of, IsLinearOn}
use Rattle.cap_homlaw.proofs.Rows.{row_ext, row_by-residues, sum-residues, scaled-residues, unit-residues, times-at, times-long}

pub prime-positive : {Obj Mor : Type 0} {C : CategoryData Obj Mor} → IsLinear C → 1 ≤ C.prime
prime-positive {C = C} L = omega (arith, (tabled_range C.prime L.prime_tabled).0)

module _ {Obj Mor : Type 0} {C : CategoryData Obj Mor} {H : HomData Obj Mor} (L : IsLinear C) (S : IsHom C H) where
  infixr 5 ◌⟫◌
  ◌⟫◌ : {a b : Obj} {f g h : Mor} → Same C a b f g → Same C a b g h → Same C a b f h
  ◌⟫◌ s t = join L s t

  pub same-from-nu : {a b : Obj} {f g : Mor} → Arrow C a b f → Arrow C a b g → H.nu f ≡ H.nu g → Same C a b f g
  same-from-nu p q e = record { left = p; right = q; congruent = S.same_nu p q e }

  -- the morphism of its own row
  pub back-nu : {a b : Obj} {f : Mor} → Arrow C a b f → Same C a b (H.back a b (H.nu f)) f
  back-nu p =
      let a = from-object L p in
      let b = to-object L p in
      let r = S.nu_row p in
      same-from-nu (S.back_arrow a b r) p (S.nu_back a b r)

  -- the morphism of a sum of rows, and of a multiple
  pub back-linear : BackIsLinear C H
  back-linear = record {
    own = λ p. back-nu p;
    add = λ {a} {b} {x} {y} o q X Y.
        let n = H.dim a b in
        let F = S.back_arrow o q X in
        let G = S.back_arrow o q Y in
        let R = sum-residues C.prime n (prime-positive L) x y in
        same-from-nu (S.back_arrow o q R) (L.add_arrow F G)
        (S.nu_back o q R
        ∙ sym (S.nu_add F G ∙ ap (λ z. row_sum C.prime n z (H.nu (H.back a b y))) (S.nu_back o q X) ∙ ap (λ z. row_sum C.prime n x z) (S.nu_back o q Y)));
    scale = λ {a} {b} {x} m o q X.
        let n = H.dim a b in
        let F = S.back_arrow o q X in
        let R = scaled-residues C.prime n (prime-positive L) m x in
        same-from-nu (S.back_arrow o q R) (L.scale_arrow m F)
        (S.nu_back o q R ∙ sym (S.nu_scale m F ∙ ap (λ z. row_scaled C.prime n m z) (S.nu_back o q X)));
  }

  pub basis-arrow : {a b : Obj} (k : ℕ) → C.is_object a → C.is_object b → Arrow C a b (basis_of H a b k)
  basis-arrow {a} {b} k o q = S.back_arrow o q (unit-residues C.prime (H.dim a b) k (tabled_range C.prime L.prime_tabled).0)

  scaled-prime_row : (p n : ℕ) (x : List ℕ) → row_scaled p n p x ≡ zero_row n
  scaled-prime_row p n x = row_ext (length-row_by n (λ k. p * get_or x k 0 % p)) (length-row_by n (λ k. 0))
      (λ k lt. row_by-at n (λ k. p * get_or x k 0 % p) k lt ∙ mul-mod_right p (get_or x k 0) ∙ sym (row_by-at n (λ k. 0) k lt))

  pub nu-zero : {a b : Obj} → C.is_object a → C.is_object b → H.nu (C.zero a b) ≡ zero_row (H.dim a b)
  nu-zero {a} {b} o q =
      let z : Arrow C a b (C.zero a b) = L.zero_arrow a b o q in
      sym (S.nu_same (scale-prime L z)) ∙ S.nu_scale C.prime z ∙ scaled-prime_row C.prime (H.dim a b) (H.nu (C.zero a b))

  -- the first m coefficients of a row, and zeros
  cut : ℕ → List ℕ → ℕ → List ℕ
  cut n row m = row_by n (λ k. cond (ltb k m) (get_or row k 0) 0)

  cut-residues : (n : ℕ) (row : List ℕ) (m : ℕ) → AreResidues C.prime n row → AreResidues C.prime n (cut n row m)
  unfolding cut
  cut-residues n row m R = row_by-residues C.prime n (λ k. cond (ltb k m) (get_or row k 0) 0)
      (λ k lt. ⊎_elim
      (λ low. subst (λ z. z < C.prime) (sym (cond-true (ltb k m) (get_or row k 0) 0 (lt-ltb k m low))) (R.residues k lt))
      (λ high. subst (λ z. z < C.prime) (sym (cond-false (ltb k m) (get_or row k 0) 0 (le-ltb k m high))) (prime-positive L))
      (cases_lt k m))

  cut-low : (n : ℕ) (row : List ℕ) (m k : ℕ) → k < n → k < m → get_or (cut n row m) k 0 ≡ get_or row k 0
  unfolding cut
  cut-low n row m k lt low = row_by-at n (λ k. cond (ltb k m) (get_or row k 0) 0) k lt ∙ cond-true (ltb k m) (get_or row k 0) 0 (lt-ltb k m low)

  cut-high : (n : ℕ) (row : List ℕ) (m k : ℕ) → k < n → m ≤ k → get_or (cut n row m) k 0 ≡ 0
  unfolding cut
  cut-high n row m k lt high = row_by-at n (λ k. cond (ltb k m) (get_or row k 0) 0) k lt ∙ cond-false (ltb k m) (get_or row k 0) 0 (le-ltb k m high)

  cut-none : (n : ℕ) (row : List ℕ) → AreResidues C.prime n row → cut n row 0 ≡ zero_row n
  cut-none n row R = row_ext (cut-residues n row 0 R).long (length-row_by n (λ k. 0)) (λ k lt. cut-high n row 0 k lt (omega arith) ∙ sym (row_by-at n (λ k. 0) k lt))

  cut-all : (n : ℕ) (row : List ℕ) → AreResidues C.prime n row → cut n row n ≡ row
  cut-all n row R = row_ext (cut-residues n row n R).long R.long (λ k lt. cut-low n row n k lt lt)

  -- one more coefficient is one more multiple of a unit row
  no-unit : (p x c : ℕ) → x < p → (x + c * 0 % p) % p ≡ x
  no-unit p x c lt = ap (λ s. (x + s % p) % p) (mul-zero c) ∙ ap (λ s. (x + s) % p) (zero-mod p) ∙ ap (λ s. s % p) (add-zero x) ∙ mod-eq_of_lt lt

  the-unit : (p c : ℕ) → c < p → (0 + c * 1 % p) % p ≡ c
  the-unit p c lt = ap (λ s. (0 + s % p) % p) (mul-one c) ∙ ap (λ s. (0 + s) % p) (mod-eq_of_lt lt) ∙ ap (λ s. s % p) (zero-add c) ∙ mod-eq_of_lt lt

  cut-next : (n : ℕ) (row : List ℕ) (m : ℕ) → AreResidues C.prime n row → m < n → cut n row (suc m) ≡ row_sum C.prime n (cut n row m) (row_scaled C.prime n (get_or row m 0) (unit_row n m))
  cut-next n row m R inside =
      let p = C.prime in
      let c = get_or row m 0 in
      let u = row_scaled p n c (unit_row n m) in
      row_ext (cut-residues n row (suc m) R).long (sum-residues p n (prime-positive L) (cut n row m) u).long
      (λ k lt.
      let right : get_or (row_sum p n (cut n row m) u) k 0 ≡ (get_or (cut n row m) k 0 + c * delta k m % p) % p =
      row_by-at n (λ i. (get_or (cut n row m) i 0 + get_or u i 0) % p) k lt
      ∙ ap (λ s. (get_or (cut n row m) k 0 + s) % p) (row_by-at n (λ i. c * get_or (unit_row n m) i 0 % p) k lt ∙ ap (λ s. c * s % p) (row_by-at n (λ i. delta i m) k lt)) in
      ⊎_elim
      (λ (low : k < m).
      cut-low n row (suc m) k lt (omega (arith, low)) ∙ sym (right
      ∙ ap (λ s. (s + c * delta k m % p) % p) (cut-low n row m k lt low)
      ∙ ap (λ s. (get_or row k 0 + c * s % p) % p) (delta-other k m (λ e. absurd (omega (arith, low, e))))
      ∙ no-unit p (get_or row k 0) c (R.residues k lt)))
      (λ (rest : m ≤ k). ⊎_elim
      (λ (here : k ≡ m).
      cut-low n row (suc m) k lt (omega (arith, here)) ∙ ap (λ s. get_or row s 0) here ∙ sym (right
      ∙ ap (λ s. (s + c * delta k m % p) % p) (cut-high n row m k lt rest)
      ∙ ap (λ s. (0 + c * s % p) % p) (ap (λ x. delta x m) here ∙ delta-same m)
      ∙ the-unit p c (R.residues m inside)))
      (λ (other : k ≢ m).
      cut-high n row (suc m) k lt (omega (arith, rest, other)) ∙ sym (right
      ∙ ap (λ s. (s + c * delta k m % p) % p) (cut-high n row m k lt rest)
      ∙ ap (λ s. (0 + c * s % p) % p) (delta-other k m other)
      ∙ no-unit p 0 c (prime-positive L)))
      (cases_eq k m))
      (cases_lt k m))

  module _ {a b x y : Obj} {F : Mor → Mor} (A : C.is_object a) (B : C.is_object b) (M : IsLinearOn C a b x y F) where
    -- the matrix of F: row k has the coefficients of F at the k-th morphism of the basis
    pub matrix_of : Grid
    matrix_of = matrix_by C.prime (H.dim a b) (H.dim x y) (λ k c. get_or (H.nu (F (basis_of H a b k))) c 0)

    pub matrix_of-by : matrix_of ≡ matrix_by C.prime (H.dim a b) (H.dim x y) (λ k c. get_or (H.nu (F (basis_of H a b k))) c 0)
    unfolding matrix_of
    matrix_of-by = refl

    pub matrix_of-is : IsMatrixOf C.prime (H.dim a b) (H.dim x y) matrix_of
    unfolding matrix_of
    matrix_of-is = matrix_by-is C.prime (H.dim a b) (H.dim x y) (λ k c. get_or (H.nu (F (basis_of H a b k))) c 0)
        (λ k c lt below. (S.nu_row (M.arrow (basis-arrow k A B))).residues c below)

    piece : List ℕ → ℕ → Mor
    piece row m = H.back a b (cut (H.dim a b) row m)

    piece-arrow : (row : List ℕ) (m : ℕ) → AreResidues C.prime (H.dim a b) row → Arrow C a b (piece row m)
    unfolding piece
    piece-arrow row m R = S.back_arrow A B (cut-residues (H.dim a b) row m R)

    piece-nu : (row : List ℕ) (m : ℕ) → AreResidues C.prime (H.dim a b) row → H.nu (piece row m) ≡ cut (H.dim a b) row m
    unfolding piece
    piece-nu row m R = S.nu_back A B (cut-residues (H.dim a b) row m R)

    -- the pieces of a morphism, one coefficient more each time
    piece-none : (row : List ℕ) → AreResidues C.prime (H.dim a b) row → Same C a b (piece row 0) (C.zero a b)
    piece-none row R = same-from-nu (piece-arrow row 0 R) (L.zero_arrow a b A B) (piece-nu row 0 R ∙ cut-none (H.dim a b) row R ∙ sym (nu-zero A B))

    piece-next : (row : List ℕ) (m : ℕ) → AreResidues C.prime (H.dim a b) row → m < H.dim a b → Same C a b (piece row (suc m)) (C.add (piece row m) (C.scale (get_or row m 0) (basis_of H a b m)))
    piece-next row m R inside =
        let p = C.prime in
        let n = H.dim a b in
        let c = get_or row m 0 in
        let P = piece-arrow row m R in
        let E : Arrow C a b (basis_of H a b m) = basis-arrow m A B in
        same-from-nu (piece-arrow row (suc m) R) (L.add_arrow P (L.scale_arrow c E))
        (piece-nu row (suc m) R ∙ cut-next n row m R inside
        ∙ sym (S.nu_add P (L.scale_arrow c E)
        ∙ ap (λ r. row_sum p n r (H.nu (C.scale c (basis_of H a b m)))) (piece-nu row m R)
        ∙ ap (λ r. row_sum p n (cut n row m) r) (S.nu_scale c E ∙ ap (λ r. row_scaled p n c r) (S.nu_back A B (unit-residues p n m (tabled_range p L.prime_tabled).0)))))

    image-none : (row : List ℕ) → AreResidues C.prime (H.dim a b) row → (c : ℕ) → c < H.dim x y → get_or (H.nu (F (piece row 0))) c 0 ≡ 0
    image-none row R c lt =
        let Z : Arrow C a b (C.zero a b) = L.zero_arrow a b A B in
        let z = M.arrow Z in
        let e : H.nu (F (piece row 0)) ≡ zero_row (H.dim x y) =
        S.nu_same (M.same (piece-none row R ⟫ back L (scale-prime L Z)) ⟫ M.scale C.prime Z) ∙ S.nu_scale C.prime z ∙ scaled-prime_row C.prime (H.dim x y) (H.nu (F (C.zero a b))) in
        ap (λ r. get_or r c 0) e ∙ row_by-at (H.dim x y) (λ k. 0) c lt

    image-next : (row : List ℕ) (m : ℕ) → AreResidues C.prime (H.dim a b) row → m < H.dim a b → (c : ℕ) → c < H.dim x y
        → get_or (H.nu (F (piece row (suc m)))) c 0 ≡ (get_or (H.nu (F (piece row m))) c 0 + get_or row m 0 * get_or (H.nu (F (basis_of H a b m))) c 0 % C.prime) % C.prime
    image-next row m R inside c lt =
        let p = C.prime in
        let n = H.dim x y in
        let v = get_or row m 0 in
        let P = piece-arrow row m R in
        let E : Arrow C a b (basis_of H a b m) = basis-arrow m A B in
        let s = M.same (piece-next row m R inside) ⟫ M.add P (L.scale_arrow v E) ⟫ added L (same L (M.arrow P)) (M.scale v E) in
        let f = M.arrow P in
        let e = M.arrow E in
        ap (λ r. get_or r c 0) (S.nu_same s ∙ S.nu_add f (L.scale_arrow v e) ∙ ap (λ r. row_sum p n (H.nu (F (piece row m))) r) (S.nu_scale v e))
        ∙ row_by-at n (λ i. (get_or (H.nu (F (piece row m))) i 0 + get_or (row_scaled p n v (H.nu (F (basis_of H a b m)))) i 0) % p) c lt
        ∙ ap (λ z. (get_or (H.nu (F (piece row m))) c 0 + z) % p) (row_by-at n (λ i. v * get_or (H.nu (F (basis_of H a b m))) i 0 % p) c lt)

    image : (row : List ℕ) (m : ℕ) → AreResidues C.prime (H.dim a b) row → m ≤ H.dim a b → (c : ℕ) → c < H.dim x y
        → get_or (H.nu (F (piece row m))) c 0 ≡ total m (λ k. get_or row k 0 * get_or (H.nu (F (basis_of H a b k))) c 0) % C.prime
    image row zero R few c lt = image-none row R c lt ∙ sym (zero-mod C.prime)
    image row (suc m) R few c lt =
        let t = λ (k : ℕ). get_or row k 0 * get_or (H.nu (F (basis_of H a b k))) c 0 in
        image-next row m R (omega (arith, few)) c lt
        ∙ ap (λ s. (s + t m % C.prime) % C.prime) (image row m R (omega (arith, few)) c lt)
        ∙ sym (add-mod (total m t) (t m) C.prime)

    whole : {g : Mor} → Arrow C a b g → Same C a b (piece (H.nu g) (H.dim a b)) g
    whole {g} G =
        let R = S.nu_row G in
        same-from-nu (piece-arrow (H.nu g) (H.dim a b) R) G (piece-nu (H.nu g) (H.dim a b) R ∙ cut-all (H.dim a b) (H.nu g) R)

    pub linear-product : {g : Mor} → Arrow C a b g → H.nu (F g) ≡ row_times (H.nu g) matrix_of
    unfolding matrix_of
    linear-product {g} G =
        let n = H.dim a b in
        let d = H.dim x y in
        let R = S.nu_row G in
        row_ext (S.nu_row (M.arrow G)).long (times-long matrix_of-is (H.nu g))
        (λ c lt.
        ap (λ r. get_or r c 0) (sym (S.nu_same (M.same (whole G))))
        ∙ image (H.nu g) n R (omega arith) c lt
        ∙ ap (λ s. s % C.prime) (total-same n (λ k. get_or (H.nu g) k 0 * get_or (H.nu (F (basis_of H a b k))) c 0) (λ k. get_or (H.nu g) k 0 * entry matrix_of.entries k c)
        (λ k below. ap (λ s. get_or (H.nu g) k 0 * s) (sym (matrix_by-at C.prime n d (λ k c. get_or (H.nu (F (basis_of H a b k))) c 0) k c below lt))))
        ∙ sym (times-at matrix_of-is (H.nu g) c lt))
