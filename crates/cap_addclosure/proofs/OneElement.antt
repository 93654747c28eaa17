-- Products from both sides with a matrix that has one basis element.
use Rattle.std.proofs.Common.{◌≡◌, ◌≢◌, ℕ, ◌+◌, ◌*◌, ◌%◌, ◌<◌, List, length, get_or, take, sym, ap, ◌∙◌, subst, arith}
use Rattle.std.proofs.lemmas.Nat.{div-mul-add, mod-mul-add, mul-add-lt, same_from_place}
use Rattle.cap_field.proofs.Fermat.{tabled_range}
use Rattle.cap_laws.specs.Linear.{Arrow, Same}
use Rattle.cap_laws.specs.Table.{TableData, Combination, IsTable, table_data, width_of}
use Rattle.cap_laws.proofs.Calculus.{same, ◌⟫◌ as join, composed, compose-zero, zero-compose}
use Rattle.cap_homlaw.specs.Rows.{unit_row, zero_row}
use Rattle.cap_homlaw.specs.Hom.{basis_of}
use Rattle.cap_homlaw.proofs.Rows.{unit-residues}
use Rattle.cap_add_laws.specs.Closure.{MorphismMatrix, entry_of, AreObjects, closure_data, closure_hom, widths_of, sum_list, morphism_by}
use Rattle.cap_add_laws.proofs.Sums.{sum-zeros, sum-one}
use Rattle.cap_add_laws.proofs.Entries.{entry-arrow, by-arrow, by-entry, matrix-ext}
use Rattle.cap_add_laws.proofs.Linear.{from-objects, to-objects, term-arrow, compose-arrow, compose-entry}
use Rattle.cap_add_laws.proofs.Structure.{widths-many, width-at, closure-is-hom}
use Rattle.cap_addclosure.specs.TwoSided.{element_at, two_sided}
use Rattle.cap_addclosure.proofs.Cuts.{cut-unit-at, cut-unit-off}

-- the width of entry (i, j)
pub width-of-place : (T : TableData) (a b : List ℕ) (i j : ℕ) → i < length a → j < length b → get_or (widths_of T a b) (i * length b + j) 0 ≡ width_of T (get_or a i 0) (get_or b j 0)
width-of-place T a b i j hi hj =
    let n = length b in
    width-at T a b (i * n + j) (omega (arith, mul-add-lt i n j (length a) hi hj))
    ∙ ap (λ q. width_of T (get_or a q 0) (get_or b ((i * n + j) % n) 0)) (div-mul-add i n j hj)
    ∙ ap (λ r. width_of T (get_or a i 0) (get_or b r 0)) (mod-mul-add i n j hj)

module _ {T : TableData} (V : IsTable T) where
  infixr 5 ◌⟫◌
  ◌⟫◌ : {a b : ℕ} {f g h : Combination} → Same (table_data T) a b f g → Same (table_data T) a b g h → Same (table_data T) a b f h
  ◌⟫◌ s t = join V.linear s t

  equal : {x y : ℕ} {f g : Combination} → Arrow (table_data T) x y f → f ≡ g → Same (table_data T) x y f g
  equal {x} {y} p e = record { left = p; right = subst (λ z. Arrow (table_data T) x y z) e p; congruent = e }

  -- the number, among all coefficients, of the t-th of entry (i, j)
  abbrev pub number_of : List ℕ → List ℕ → ℕ → ℕ → ℕ → ℕ
  number_of a b i j t = sum_list (take (i * length b + j) (widths_of T a b)) + t

  module _ {a b : List ℕ} (A : AreObjects T a) (B : AreObjects T b) (i j t : ℕ) (hi : i < length a) (hj : j < length b) (ht : t < width_of T (get_or a i 0) (get_or b j 0)) where
    inside : i * length b + j < length (widths_of T a b)
    inside = omega (arith, mul-add-lt i (length b) j (length a) hi hj, widths-many T a b)

    wide : t < get_or (widths_of T a b) (i * length b + j) 0
    wide = subst (λ n. t < n) (sym (width-of-place T a b i j hi hj)) ht

    pub one-arrow : Arrow (closure_data T) a b (basis_of (closure_hom T) a b (number_of a b i j t))
    one-arrow = (closure-is-hom V).back_arrow A B (unit-residues T.prime (sum_list (widths_of T a b)) (number_of a b i j t) (tabled_range T.prime V.linear.prime_tabled).0)

    one-here : entry_of (basis_of (closure_hom T) a b (number_of a b i j t)) i j ≡ element_at T (get_or a i 0) (get_or b j 0) t
    one-here =
        let make = λ (row : List ℕ). let c : Combination = record { from = get_or a i 0; to = get_or b j 0; coefficients = row } in c in
        ap make (cut-unit-at (widths_of T a b) (i * length b + j) t inside wide ∙ ap (λ n. unit_row n t) (width-of-place T a b i j hi hj))

    one-other : (k l : ℕ) → k < length a → l < length b → (k ≡ i → l ≡ j → ⊥) → entry_of (basis_of (closure_hom T) a b (number_of a b i j t)) k l ≡ (table_data T).zero (get_or a k 0) (get_or b l 0)
    one-other k l hk hl ne =
        let make = λ (row : List ℕ). let c : Combination = record { from = get_or a k 0; to = get_or b l 0; coefficients = row } in c in
        ap make (cut-unit-off (widths_of T a b) (i * length b + j) t (k * length b + l) inside wide (omega (arith, mul-add-lt k (length b) l (length a) hk hl, widths-many T a b))
        (λ s. let d = same_from_place k l i j (length b) hl hj s in ne d.0 d.1)
        ∙ ap zero_row (width-of-place T a b k l hk hl))

    -- l·e has column i of l, times the element, as its column j, and zeros elsewhere
    module _ {x : List ℕ} {l : MorphismMatrix} (p : Arrow (closure_data T) x a l) where
      left-here : (u : ℕ) → u < length x → entry_of ((closure_data T).compose l (basis_of (closure_hom T) a b (number_of a b i j t))) u j ≡ (table_data T).compose (entry_of l u i) (element_at T (get_or a i 0) (get_or b j 0) t)
      left-here u hu =
          let E = one-arrow in
          let X = (from-objects p).each u hu in
          let Y = B.each j hj in
          compose-entry V p E u j hu hj
          ∙ (sum-one V.linear (get_or x u 0) (get_or b j 0) X Y (length a) i (λ k. (table_data T).compose (entry_of l u k) (entry_of (basis_of (closure_hom T) a b (number_of a b i j t)) k j)) hi
          (λ k hk. term-arrow V p E u k j hu hk hj)
          (λ k hk ne. composed V.linear (same V.linear (entry-arrow p u k hu hk)) (equal (entry-arrow E k j hk hj) (one-other k j hk hj (λ s d. ne s)))
          ⟫ compose-zero V.linear (entry-arrow p u k hu hk) Y)).congruent
          ∙ ap (λ z. (table_data T).compose (entry_of l u i) z) one-here

      left-other : (u k : ℕ) → u < length x → k < length b → k ≢ j → entry_of ((closure_data T).compose l (basis_of (closure_hom T) a b (number_of a b i j t))) u k ≡ (table_data T).zero (get_or x u 0) (get_or b k 0)
      left-other u k hu hk other =
          let E = one-arrow in
          let X = (from-objects p).each u hu in
          let Y = B.each k hk in
          compose-entry V p E u k hu hk
          ∙ (sum-zeros V.linear (get_or x u 0) (get_or b k 0) X Y (length a) (λ m. (table_data T).compose (entry_of l u m) (entry_of (basis_of (closure_hom T) a b (number_of a b i j t)) m k))
          (λ m hm. composed V.linear (same V.linear (entry-arrow p u m hu hm)) (equal (entry-arrow E m k hm hk) (one-other m k hm hk (λ s d. other d)))
          ⟫ compose-zero V.linear (entry-arrow p u m hu hm) Y)).congruent

      -- l·e·r
      module _ {y : List ℕ} {r : MorphismMatrix} (q : Arrow (closure_data T) b y r) where
        both-arrow : Arrow (closure_data T) x y ((closure_data T).compose ((closure_data T).compose l (basis_of (closure_hom T) a b (number_of a b i j t))) r)
        both-arrow = compose-arrow V (compose-arrow V p one-arrow) q

        abbrev pub product_at : ℕ → ℕ → Combination
        product_at u v = (table_data T).compose ((table_data T).compose (entry_of l u i) (element_at T (get_or a i 0) (get_or b j 0) t)) (entry_of r j v)

        both-entry : (u v : ℕ) → u < length x → v < length y → entry_of ((closure_data T).compose ((closure_data T).compose l (basis_of (closure_hom T) a b (number_of a b i j t))) r) u v ≡ product_at u v
        both-entry u v hu hv =
            let L = compose-arrow V p one-arrow in
            let X = (from-objects p).each u hu in
            let Y = (to-objects q).each v hv in
            let le = (closure_data T).compose l (basis_of (closure_hom T) a b (number_of a b i j t)) in
            compose-entry V L q u v hu hv
            ∙ (sum-one V.linear (get_or x u 0) (get_or y v 0) X Y (length b) j (λ k. (table_data T).compose (entry_of le u k) (entry_of r k v)) hj
            (λ k hk. term-arrow V L q u k v hu hk hv)
            (λ k hk ne. composed V.linear (equal (entry-arrow L u k hu hk) (left-other u k hu hk ne)) (same V.linear (entry-arrow q k v hk hv))
            ⟫ zero-compose V.linear X (entry-arrow q k v hk hv))).congruent
            ∙ ap (λ z. (table_data T).compose z (entry_of r j v)) (left-here u hu)

        product-arrow : (u v : ℕ) → u < length x → v < length y → Arrow (table_data T) (get_or x u 0) (get_or y v 0) (product_at u v)
        product-arrow u v hu hv = subst (λ z. Arrow (table_data T) (get_or x u 0) (get_or y v 0) z) (both-entry u v hu hv) (entry-arrow both-arrow u v hu hv)

        by-products : (closure_data T).compose ((closure_data T).compose l (basis_of (closure_hom T) a b (number_of a b i j t))) r ≡ morphism_by x y product_at
        by-products = matrix-ext both-arrow (by-arrow x y product_at (from-objects p) (to-objects q) product-arrow)
            (λ u v hu hv. both-entry u v hu hv ∙ sym (by-entry x y product_at u v hu hv (product-arrow u v hu hv)))

module _ {T : TableData} (V : IsTable T) (l r : MorphismMatrix) (L : Arrow (closure_data T) l.from l.to l) (R : Arrow (closure_data T) r.from r.to r) (i j t : ℕ) (hi : i < length l.to) (hj : j < length r.from)
    (ht : t < width_of T (get_or l.to i 0) (get_or r.from j 0)) where
  pub two-sided-is : (closure_data T).compose ((closure_data T).compose l (basis_of (closure_hom T) l.to r.from (number_of V l.to r.from i j t))) r ≡ two_sided T l r i j t
  two-sided-is = by-products V (to-objects L) (from-objects R) i j t hi hj ht L R

  pub two-sided-arrow : Arrow (closure_data T) l.from r.to (two_sided T l r i j t)
  two-sided-arrow = subst (λ z. Arrow (closure_data T) l.from r.to z) two-sided-is (both-arrow V (to-objects L) (from-objects R) i j t hi hj ht L R)
