-- The additive closure of a table is a linear category.
use Rattle.std.proofs.Common.{◌≡◌, ◌≢◌, ℕ, ◌+◌, ◌*◌, ◌<◌, cond, eqb, List, length, get_or, refl, sym, ap, ◌∙◌, subst, arith, ⊎_elim}
use Rattle.std.proofs.lemmas.Bool.{cases_eq, eq-eqb, ne_eqb, cond-true, cond-false}
use Rattle.cap_laws.specs.Linear.{CategoryData, IsLinear, Arrow, Same}
use Rattle.cap_laws.specs.Table.{TableData, Combination, IsTable, table_data}
use Rattle.cap_laws.proofs.Calculus.{same, back, ◌⟫◌ as join, composed, added, scaled, assoc, compose-add, add-compose, compose-scale, scale-compose, compose-zero, zero-compose}
use Rattle.cap_add_laws.specs.Closure.{MorphismMatrix, entry_of, morphism_by, AreObjects, diagonal_of, closure_data, sum_below}
use Rattle.cap_add_laws.proofs.Sums.{sum-arrow, sum-same, sum-zeros, sum-plus, sum-scale, sum-one, sum-swap, compose-sum, sum-compose}
use Rattle.cap_add_laws.proofs.Entries.{entry-arrow, by-arrow, by-entry, matrix-ext}

pub from-objects : {T : TableData} {a b : List ℕ} {f : MorphismMatrix} → Arrow (closure_data T) a b f → AreObjects T a
from-objects {T} p = subst (λ z. AreObjects T z) p.from p.is.from

pub to-objects : {T : TableData} {a b : List ℕ} {f : MorphismMatrix} → Arrow (closure_data T) a b f → AreObjects T b
to-objects {T} p = subst (λ z. AreObjects T z) p.to p.is.to

module _ {T : TableData} (V : IsTable T) where
  infixr 5 ◌⟫◌
  ◌⟫◌ : {a b : ℕ} {f g h : Combination} → Same (table_data T) a b f g → Same (table_data T) a b g h → Same (table_data T) a b f h
  ◌⟫◌ s t = join V.linear s t

  equal : {x y : ℕ} {f g : Combination} → Arrow (table_data T) x y f → f ≡ g → Same (table_data T) x y f g
  equal {x} {y} p e = record { left = p; right = subst (λ z. Arrow (table_data T) x y z) e p; congruent = e }

  K : CategoryData ℕ Combination
  K = table_data T

  -- entry (i, k) of a product, where n is the length of the middle list
  abbrev pub product_entry : List ℕ → List ℕ → ℕ → MorphismMatrix → MorphismMatrix → ℕ → ℕ → Combination
  product_entry a c n f g i k = sum_below (table_data T) (get_or a i 0) (get_or c k 0) n (λ j. (table_data T).compose (entry_of f i j) (entry_of g j k))

  compose-is : {a b c : List ℕ} {f g : MorphismMatrix} → Arrow (closure_data T) a b f → Arrow (closure_data T) b c g → (closure_data T).compose f g ≡ morphism_by a c (product_entry a c (length b) f g)
  compose-is {a} {b} {c} {f} {g} p q =
      ap (λ z. morphism_by z g.to (product_entry z g.to (length f.to) f g)) p.from
      ∙ ap (λ z. morphism_by a z (product_entry a z (length f.to) f g)) q.to
      ∙ ap (λ (z : List ℕ). morphism_by a c (product_entry a c (length z) f g)) p.to

  add-is : {a b : List ℕ} {f : MorphismMatrix} (g : MorphismMatrix) → Arrow (closure_data T) a b f → (closure_data T).add f g ≡ morphism_by a b (λ i j. (table_data T).add (entry_of f i j) (entry_of g i j))
  add-is {a} {b} {f} g p =
      ap (λ z. morphism_by z f.to (λ i j. (table_data T).add (entry_of f i j) (entry_of g i j))) p.from
      ∙ ap (λ z. morphism_by a z (λ i j. (table_data T).add (entry_of f i j) (entry_of g i j))) p.to

  scale-is : {a b : List ℕ} {f : MorphismMatrix} (n : ℕ) → Arrow (closure_data T) a b f → (closure_data T).scale n f ≡ morphism_by a b (λ i j. (table_data T).scale n (entry_of f i j))
  scale-is {a} {b} {f} n p =
      ap (λ z. morphism_by z f.to (λ i j. (table_data T).scale n (entry_of f i j))) p.from
      ∙ ap (λ z. morphism_by a z (λ i j. (table_data T).scale n (entry_of f i j))) p.to

  moved : {a b : List ℕ} {f g : MorphismMatrix} → f ≡ g → Arrow (closure_data T) a b g → Arrow (closure_data T) a b f
  moved {a} {b} e p = subst (λ z. Arrow (closure_data T) a b z) (sym e) p

  -- products
  pub term-arrow : {a b c : List ℕ} {f g : MorphismMatrix} → Arrow (closure_data T) a b f → Arrow (closure_data T) b c g → (i j k : ℕ) → i < length a → j < length b → k < length c
      → Arrow (table_data T) (get_or a i 0) (get_or c k 0) ((table_data T).compose (entry_of f i j) (entry_of g j k))
  term-arrow p q i j k hi hj hk = V.linear.compose_arrow (entry-arrow p i j hi hj) (entry-arrow q j k hj hk)

  pub product-arrow : {a b c : List ℕ} {f g : MorphismMatrix} → Arrow (closure_data T) a b f → Arrow (closure_data T) b c g → (i k : ℕ) → i < length a → k < length c
      → Arrow (table_data T) (get_or a i 0) (get_or c k 0) (product_entry a c (length b) f g i k)
  product-arrow {a} {b} {c} {f} {g} p q i k hi hk =
      sum-arrow V.linear (get_or a i 0) (get_or c k 0) ((from-objects p).each i hi) ((to-objects q).each k hk) (length b) (λ j. (table_data T).compose (entry_of f i j) (entry_of g j k)) (λ j hj. term-arrow p q i j k hi hj hk)

  pub compose-arrow : {a b c : List ℕ} {f g : MorphismMatrix} → Arrow (closure_data T) a b f → Arrow (closure_data T) b c g → Arrow (closure_data T) a c ((closure_data T).compose f g)
  compose-arrow {a} {b} {c} {f} {g} p q = moved (compose-is p q) (by-arrow a c (product_entry a c (length b) f g) (from-objects p) (to-objects q) (λ i k hi hk. product-arrow p q i k hi hk))

  pub compose-entry : {a b c : List ℕ} {f g : MorphismMatrix} → Arrow (closure_data T) a b f → Arrow (closure_data T) b c g → (i k : ℕ) → i < length a → k < length c
      → entry_of ((closure_data T).compose f g) i k ≡ product_entry a c (length b) f g i k
  compose-entry {a} {b} {c} {f} {g} p q i k hi hk = ap (λ z. entry_of z i k) (compose-is p q) ∙ by-entry a c (product_entry a c (length b) f g) i k hi hk (product-arrow p q i k hi hk)

  -- sums and multiples
  pub add-arrow : {a b : List ℕ} {f g : MorphismMatrix} → Arrow (closure_data T) a b f → Arrow (closure_data T) a b g → Arrow (closure_data T) a b ((closure_data T).add f g)
  add-arrow {a} {b} {f} {g} p q = moved (add-is g p) (by-arrow a b (λ i j. (table_data T).add (entry_of f i j) (entry_of g i j)) (from-objects p) (to-objects p)
      (λ i j hi hj. V.linear.add_arrow (entry-arrow p i j hi hj) (entry-arrow q i j hi hj)))

  pub add-entry : {a b : List ℕ} {f g : MorphismMatrix} → Arrow (closure_data T) a b f → Arrow (closure_data T) a b g → (i j : ℕ) → i < length a → j < length b
      → entry_of ((closure_data T).add f g) i j ≡ (table_data T).add (entry_of f i j) (entry_of g i j)
  add-entry {a} {b} {f} {g} p q i j hi hj = ap (λ z. entry_of z i j) (add-is g p) ∙ by-entry a b (λ i j. (table_data T).add (entry_of f i j) (entry_of g i j)) i j hi hj
      (V.linear.add_arrow (entry-arrow p i j hi hj) (entry-arrow q i j hi hj))

  pub scale-arrow : {a b : List ℕ} {f : MorphismMatrix} (n : ℕ) → Arrow (closure_data T) a b f → Arrow (closure_data T) a b ((closure_data T).scale n f)
  scale-arrow {a} {b} {f} n p = moved (scale-is n p) (by-arrow a b (λ i j. (table_data T).scale n (entry_of f i j)) (from-objects p) (to-objects p) (λ i j hi hj. V.linear.scale_arrow n (entry-arrow p i j hi hj)))

  pub scale-entry : {a b : List ℕ} {f : MorphismMatrix} (n : ℕ) → Arrow (closure_data T) a b f → (i j : ℕ) → i < length a → j < length b → entry_of ((closure_data T).scale n f) i j ≡ (table_data T).scale n (entry_of f i j)
  scale-entry {a} {b} {f} n p i j hi hj = ap (λ z. entry_of z i j) (scale-is n p) ∙ by-entry a b (λ i j. (table_data T).scale n (entry_of f i j)) i j hi hj (V.linear.scale_arrow n (entry-arrow p i j hi hj))

  -- zeros
  zero-piece : (a b : List ℕ) → AreObjects T a → AreObjects T b → (i j : ℕ) → i < length a → j < length b → Arrow (table_data T) (get_or a i 0) (get_or b j 0) ((table_data T).zero (get_or a i 0) (get_or b j 0))
  zero-piece a b A B i j hi hj = V.linear.zero_arrow (get_or a i 0) (get_or b j 0) (A.each i hi) (B.each j hj)

  pub zero-arrow : (a b : List ℕ) → AreObjects T a → AreObjects T b → Arrow (closure_data T) a b ((closure_data T).zero a b)
  zero-arrow a b A B = by-arrow a b (λ i j. (table_data T).zero (get_or a i 0) (get_or b j 0)) A B (λ i j hi hj. zero-piece a b A B i j hi hj)

  pub zero-entry : (a b : List ℕ) → AreObjects T a → AreObjects T b → (i j : ℕ) → i < length a → j < length b → entry_of ((closure_data T).zero a b) i j ≡ (table_data T).zero (get_or a i 0) (get_or b j 0)
  zero-entry a b A B i j hi hj = by-entry a b (λ i j. (table_data T).zero (get_or a i 0) (get_or b j 0)) i j hi hj (zero-piece a b A B i j hi hj)

  -- diagonals: units where i + c = j + r, where the parts there are equal
  pub record Matches (a b : List ℕ) (r c : ℕ) : Type 0 where
    pub at : (i j : ℕ) → i < length a → j < length b → i + c ≡ j + r → get_or a i 0 ≡ get_or b j 0

  abbrev diagonal_piece : List ℕ → List ℕ → ℕ → ℕ → ℕ → ℕ → Combination
  diagonal_piece a b r c i j = cond (eqb (i + c) (j + r)) ((table_data T).identity (get_or a i 0)) ((table_data T).zero (get_or a i 0) (get_or b j 0))

  module _ {a b : List ℕ} {r c : ℕ} (A : AreObjects T a) (B : AreObjects T b) (M : Matches a b r c) where
    piece-on : (i j : ℕ) → i + c ≡ j + r → diagonal_piece a b r c i j ≡ (table_data T).identity (get_or a i 0)
    piece-on i j e = cond-true (eqb (i + c) (j + r)) ((table_data T).identity (get_or a i 0)) ((table_data T).zero (get_or a i 0) (get_or b j 0)) (eq-eqb (i + c) (j + r) e)

    piece-off : (i j : ℕ) → i + c ≢ j + r → diagonal_piece a b r c i j ≡ (table_data T).zero (get_or a i 0) (get_or b j 0)
    piece-off i j ne = cond-false (eqb (i + c) (j + r)) ((table_data T).identity (get_or a i 0)) ((table_data T).zero (get_or a i 0) (get_or b j 0)) (ne_eqb (i + c) (j + r) ne)

    piece-arrow : (i j : ℕ) → i < length a → j < length b → Arrow (table_data T) (get_or a i 0) (get_or b j 0) (diagonal_piece a b r c i j)
    piece-arrow i j hi hj = ⊎_elim
        (λ (e : i + c ≡ j + r). subst (λ z. Arrow (table_data T) (get_or a i 0) (get_or b j 0) z) (sym (piece-on i j e))
        (subst (λ z. Arrow (table_data T) (get_or a i 0) z ((table_data T).identity (get_or a i 0))) (M.at i j hi hj e) (V.linear.identity_arrow (get_or a i 0) (A.each i hi))))
        (λ (ne : i + c ≢ j + r). subst (λ z. Arrow (table_data T) (get_or a i 0) (get_or b j 0) z) (sym (piece-off i j ne)) (zero-piece a b A B i j hi hj))
        (cases_eq (i + c) (j + r))

    pub diagonal-arrow : Arrow (closure_data T) a b (diagonal_of T a b r c)
    diagonal-arrow = by-arrow a b (diagonal_piece a b r c) A B (λ i j hi hj. piece-arrow i j hi hj)

    diagonal-entry : (i j : ℕ) → i < length a → j < length b → entry_of (diagonal_of T a b r c) i j ≡ diagonal_piece a b r c i j
    diagonal-entry i j hi hj = by-entry a b (diagonal_piece a b r c) i j hi hj (piece-arrow i j hi hj)

    pub diagonal-on : (i j : ℕ) → i < length a → j < length b → i + c ≡ j + r → entry_of (diagonal_of T a b r c) i j ≡ (table_data T).identity (get_or a i 0)
    diagonal-on i j hi hj e = diagonal-entry i j hi hj ∙ piece-on i j e

    pub diagonal-off : (i j : ℕ) → i < length a → j < length b → i + c ≢ j + r → entry_of (diagonal_of T a b r c) i j ≡ (table_data T).zero (get_or a i 0) (get_or b j 0)
    diagonal-off i j hi hj ne = diagonal-entry i j hi hj ∙ piece-off i j ne

    -- a diagonal picks rows of what comes after it
    pub pick-row : {d : List ℕ} {g : MorphismMatrix} → Arrow (closure_data T) b d g → (i j k : ℕ) → i < length a → j < length b → k < length d → i + c ≡ j + r → entry_of ((closure_data T).compose (diagonal_of T a b r c) g) i k ≡ entry_of g j k
    pick-row {d} {g} q i j k hi hj hk e =
        let D = diagonal-arrow in
        let G = entry-arrow q j k hj hk in
        let term = λ (l : ℕ). (table_data T).compose (entry_of (diagonal_of T a b r c) i l) (entry_of g l k) in
        compose-entry D q i k hi hk
        ∙ (sum-one V.linear (get_or a i 0) (get_or d k 0) (A.each i hi) ((to-objects q).each k hk) (length b) j term hj
        (λ l hl. term-arrow D q i l k hi hl hk)
        (λ l hl ne. composed V.linear (equal (entry-arrow D i l hi hl) (diagonal-off i l hi hl (λ s. ne (omega (arith, e, s))))) (same V.linear (entry-arrow q l k hl hk))
        ⟫ zero-compose V.linear (A.each i hi) (entry-arrow q l k hl hk))).congruent
        ∙ ap (λ z. (table_data T).compose z (entry_of g j k)) (diagonal-on i j hi hj e ∙ ap (λ x. (table_data T).identity x) (M.at i j hi hj e))
        ∙ V.linear.unit_left G

    pub pick-none : {d : List ℕ} {g : MorphismMatrix} → Arrow (closure_data T) b d g → (i k : ℕ) → i < length a → k < length d → ((j : ℕ) → j < length b → i + c ≢ j + r)
        → entry_of ((closure_data T).compose (diagonal_of T a b r c) g) i k ≡ (table_data T).zero (get_or a i 0) (get_or d k 0)
    pick-none {d} {g} q i k hi hk none =
        let D = diagonal-arrow in
        compose-entry D q i k hi hk
        ∙ (sum-zeros V.linear (get_or a i 0) (get_or d k 0) (A.each i hi) ((to-objects q).each k hk) (length b) (λ l. (table_data T).compose (entry_of (diagonal_of T a b r c) i l) (entry_of g l k))
        (λ l hl. composed V.linear (equal (entry-arrow D i l hi hl) (diagonal-off i l hi hl (none l hl))) (same V.linear (entry-arrow q l k hl hk))
        ⟫ zero-compose V.linear (A.each i hi) (entry-arrow q l k hl hk))).congruent

    -- and columns of what comes before
    pub pick-column : {d : List ℕ} {f : MorphismMatrix} → Arrow (closure_data T) d a f → (i j k : ℕ) → i < length d → j < length a → k < length b → j + c ≡ k + r → entry_of ((closure_data T).compose f (diagonal_of T a b r c)) i k ≡ entry_of f i j
    pick-column {d} {f} q i j k hi hj hk e =
        let D = diagonal-arrow in
        let G = entry-arrow q i j hi hj in
        let term = λ (l : ℕ). (table_data T).compose (entry_of f i l) (entry_of (diagonal_of T a b r c) l k) in
        compose-entry q D i k hi hk
        ∙ (sum-one V.linear (get_or d i 0) (get_or b k 0) ((from-objects q).each i hi) (B.each k hk) (length a) j term hj
        (λ l hl. term-arrow q D i l k hi hl hk)
        (λ l hl ne. composed V.linear (same V.linear (entry-arrow q i l hi hl)) (equal (entry-arrow D l k hl hk) (diagonal-off l k hl hk (λ s. ne (omega (arith, e, s)))))
        ⟫ compose-zero V.linear (entry-arrow q i l hi hl) (B.each k hk))).congruent
        ∙ ap (λ z. (table_data T).compose (entry_of f i j) z) (diagonal-on j k hj hk e)
        ∙ V.linear.unit_right G

  pub own-matches : (a : List ℕ) → Matches a a 0 0
  own-matches a = record { at = λ i j hi hj e. let s : i ≡ j = omega (arith, e) in ap (λ k. get_or a k 0) s }

  pub identity-arrow : (a : List ℕ) → AreObjects T a → Arrow (closure_data T) a a ((closure_data T).identity a)
  identity-arrow a A = diagonal-arrow A A (own-matches a)

  unit_left_law : {a b : List ℕ} {f : MorphismMatrix} → Arrow (closure_data T) a b f → (closure_data T).compose ((closure_data T).identity a) f ≡ f
  unit_left_law {a} {b} {f} p =
      let A = from-objects p in
      matrix-ext (compose-arrow (identity-arrow a A) p) p (λ i k hi hk. pick-row A A (own-matches a) p i i k hi hi hk refl)

  unit_right_law : {a b : List ℕ} {f : MorphismMatrix} → Arrow (closure_data T) a b f → (closure_data T).compose f ((closure_data T).identity b) ≡ f
  unit_right_law {a} {b} {f} p =
      let B = to-objects p in
      matrix-ext (compose-arrow p (identity-arrow b B)) p (λ i k hi hk. pick-column B B (own-matches b) p i k k hi hk hk refl)

  associative_law : {a b c d : List ℕ} {f g h : MorphismMatrix} → Arrow (closure_data T) a b f → Arrow (closure_data T) b c g → Arrow (closure_data T) c d h → (closure_data T).compose ((closure_data T).compose f g) h ≡ (closure_data T).compose f ((closure_data T).compose g h)
  associative_law {a} {b} {c} {d} {f} {g} {h} p q r =
      let FG = compose-arrow p q in
      let GH = compose-arrow q r in
      let C = table_data T in
      let L = V.linear in
      matrix-ext (compose-arrow FG r) (compose-arrow p GH)
      (λ i l hi hl.
      let x = get_or a i 0 in
      let y = get_or d l 0 in
      let X = (from-objects p).each i hi in
      let Y = (to-objects r).each l hl in
      let term = λ (j k : ℕ). C.compose (entry_of f i j) (C.compose (entry_of g j k) (entry_of h k l)) in
      let terms = λ (j k : ℕ) (hj : j < length b) (hk : k < length c). L.compose_arrow (entry-arrow p i j hi hj) (term-arrow q r j k l hj hk hl) in
      compose-entry FG r i l hi hl
      ∙ (sum-same L x y X Y (length c) (λ k. C.compose (entry_of ((closure_data T).compose f g) i k) (entry_of h k l)) (λ k. sum_below C x y (length b) (λ j. term j k))
      (λ k hk.
      let R = entry-arrow r k l hk hl in
      composed L (equal (entry-arrow FG i k hi hk) (compose-entry p q i k hi hk)) (same L R)
      ⟫ sum-compose L (length b) (λ j. C.compose (entry_of f i j) (entry_of g j k)) X R (λ j hj. term-arrow p q i j k hi hj hk)
      ⟫ sum-same L x y X Y (length b) (λ j. C.compose (C.compose (entry_of f i j) (entry_of g j k)) (entry_of h k l)) (λ j. term j k)
      (λ j hj. assoc L (entry-arrow p i j hi hj) (entry-arrow q j k hj hk) R))
      ⟫ sum-swap L x y X Y (length c) (length b) (λ k j. term j k) (λ k j hk hj. terms j k hj hk)
      ⟫ sum-same L x y X Y (length b) (λ j. sum_below C x y (length c) (λ k. term j k)) (λ j. C.compose (entry_of f i j) (entry_of ((closure_data T).compose g h) j l))
      (λ j hj.
      let P = entry-arrow p i j hi hj in
      back L (compose-sum L (length c) (λ k. C.compose (entry_of g j k) (entry_of h k l)) P Y (λ k hk. term-arrow q r j k l hj hk hl))
      ⟫ composed L (same L P) (back L (equal (entry-arrow GH j l hj hl) (compose-entry q r j l hj hl))))).congruent
      ∙ sym (compose-entry p GH i l hi hl))

  compose_add_law : {a b c : List ℕ} {f g h : MorphismMatrix} → Arrow (closure_data T) a b f → Arrow (closure_data T) b c g → Arrow (closure_data T) b c h
      → (closure_data T).compose f ((closure_data T).add g h) ≡ (closure_data T).add ((closure_data T).compose f g) ((closure_data T).compose f h)
  compose_add_law {a} {b} {c} {f} {g} {h} p q r =
      let C = table_data T in
      let L = V.linear in
      let S = add-arrow q r in
      let FG = compose-arrow p q in
      let FH = compose-arrow p r in
      matrix-ext (compose-arrow p S) (add-arrow FG FH)
      (λ i k hi hk.
      let x = get_or a i 0 in
      let y = get_or c k 0 in
      let X = (from-objects p).each i hi in
      let Y = (to-objects q).each k hk in
      compose-entry p S i k hi hk
      ∙ (sum-same L x y X Y (length b) (λ j. C.compose (entry_of f i j) (entry_of ((closure_data T).add g h) j k)) (λ j. C.add (C.compose (entry_of f i j) (entry_of g j k)) (C.compose (entry_of f i j) (entry_of h j k)))
      (λ j hj. composed L (same L (entry-arrow p i j hi hj)) (equal (entry-arrow S j k hj hk) (add-entry q r j k hj hk)) ⟫ compose-add L (entry-arrow p i j hi hj) (entry-arrow q j k hj hk) (entry-arrow r j k hj hk))
      ⟫ sum-plus L x y X Y (length b) (λ j. C.compose (entry_of f i j) (entry_of g j k)) (λ j. C.compose (entry_of f i j) (entry_of h j k)) (λ j hj. term-arrow p q i j k hi hj hk) (λ j hj. term-arrow p r i j k hi hj hk)
      ⟫ added L (back L (equal (entry-arrow FG i k hi hk) (compose-entry p q i k hi hk))) (back L (equal (entry-arrow FH i k hi hk) (compose-entry p r i k hi hk)))).congruent
      ∙ sym (add-entry FG FH i k hi hk))

  add_compose_law : {a b c : List ℕ} {f g h : MorphismMatrix} → Arrow (closure_data T) a b f → Arrow (closure_data T) a b g → Arrow (closure_data T) b c h
      → (closure_data T).compose ((closure_data T).add f g) h ≡ (closure_data T).add ((closure_data T).compose f h) ((closure_data T).compose g h)
  add_compose_law {a} {b} {c} {f} {g} {h} p q r =
      let C = table_data T in
      let L = V.linear in
      let S = add-arrow p q in
      let FH = compose-arrow p r in
      let GH = compose-arrow q r in
      matrix-ext (compose-arrow S r) (add-arrow FH GH)
      (λ i k hi hk.
      let x = get_or a i 0 in
      let y = get_or c k 0 in
      let X = (from-objects p).each i hi in
      let Y = (to-objects r).each k hk in
      compose-entry S r i k hi hk
      ∙ (sum-same L x y X Y (length b) (λ j. C.compose (entry_of ((closure_data T).add f g) i j) (entry_of h j k)) (λ j. C.add (C.compose (entry_of f i j) (entry_of h j k)) (C.compose (entry_of g i j) (entry_of h j k)))
      (λ j hj. composed L (equal (entry-arrow S i j hi hj) (add-entry p q i j hi hj)) (same L (entry-arrow r j k hj hk)) ⟫ add-compose L (entry-arrow p i j hi hj) (entry-arrow q i j hi hj) (entry-arrow r j k hj hk))
      ⟫ sum-plus L x y X Y (length b) (λ j. C.compose (entry_of f i j) (entry_of h j k)) (λ j. C.compose (entry_of g i j) (entry_of h j k)) (λ j hj. term-arrow p r i j k hi hj hk) (λ j hj. term-arrow q r i j k hi hj hk)
      ⟫ added L (back L (equal (entry-arrow FH i k hi hk) (compose-entry p r i k hi hk))) (back L (equal (entry-arrow GH i k hi hk) (compose-entry q r i k hi hk)))).congruent
      ∙ sym (add-entry FH GH i k hi hk))

  compose_scale_law : {a b c : List ℕ} {f g : MorphismMatrix} (n : ℕ) → Arrow (closure_data T) a b f → Arrow (closure_data T) b c g → (closure_data T).compose f ((closure_data T).scale n g) ≡ (closure_data T).scale n ((closure_data T).compose f g)
  compose_scale_law {a} {b} {c} {f} {g} n p q =
      let C = table_data T in
      let L = V.linear in
      let S = scale-arrow n q in
      let FG = compose-arrow p q in
      matrix-ext (compose-arrow p S) (scale-arrow n FG)
      (λ i k hi hk.
      let x = get_or a i 0 in
      let y = get_or c k 0 in
      let X = (from-objects p).each i hi in
      let Y = (to-objects q).each k hk in
      compose-entry p S i k hi hk
      ∙ (sum-same L x y X Y (length b) (λ j. C.compose (entry_of f i j) (entry_of ((closure_data T).scale n g) j k)) (λ j. C.scale n (C.compose (entry_of f i j) (entry_of g j k)))
      (λ j hj. composed L (same L (entry-arrow p i j hi hj)) (equal (entry-arrow S j k hj hk) (scale-entry n q j k hj hk)) ⟫ compose-scale L n (entry-arrow p i j hi hj) (entry-arrow q j k hj hk))
      ⟫ sum-scale L x y X Y n (length b) (λ j. C.compose (entry_of f i j) (entry_of g j k)) (λ j hj. term-arrow p q i j k hi hj hk)
      ⟫ scaled L n (back L (equal (entry-arrow FG i k hi hk) (compose-entry p q i k hi hk)))).congruent
      ∙ sym (scale-entry n FG i k hi hk))

  scale_compose_law : {a b c : List ℕ} {f g : MorphismMatrix} (n : ℕ) → Arrow (closure_data T) a b f → Arrow (closure_data T) b c g → (closure_data T).compose ((closure_data T).scale n f) g ≡ (closure_data T).scale n ((closure_data T).compose f g)
  scale_compose_law {a} {b} {c} {f} {g} n p q =
      let C = table_data T in
      let L = V.linear in
      let S = scale-arrow n p in
      let FG = compose-arrow p q in
      matrix-ext (compose-arrow S q) (scale-arrow n FG)
      (λ i k hi hk.
      let x = get_or a i 0 in
      let y = get_or c k 0 in
      let X = (from-objects p).each i hi in
      let Y = (to-objects q).each k hk in
      compose-entry S q i k hi hk
      ∙ (sum-same L x y X Y (length b) (λ j. C.compose (entry_of ((closure_data T).scale n f) i j) (entry_of g j k)) (λ j. C.scale n (C.compose (entry_of f i j) (entry_of g j k)))
      (λ j hj. composed L (equal (entry-arrow S i j hi hj) (scale-entry n p i j hi hj)) (same L (entry-arrow q j k hj hk)) ⟫ scale-compose L n (entry-arrow p i j hi hj) (entry-arrow q j k hj hk))
      ⟫ sum-scale L x y X Y n (length b) (λ j. C.compose (entry_of f i j) (entry_of g j k)) (λ j hj. term-arrow p q i j k hi hj hk)
      ⟫ scaled L n (back L (equal (entry-arrow FG i k hi hk) (compose-entry p q i k hi hk)))).congruent
      ∙ sym (scale-entry n FG i k hi hk))

  -- the laws of a vector space, entry by entry
  add_associative_law : {a b : List ℕ} {f g h : MorphismMatrix} → Arrow (closure_data T) a b f → Arrow (closure_data T) a b g → Arrow (closure_data T) a b h → (closure_data T).add ((closure_data T).add f g) h ≡ (closure_data T).add f ((closure_data T).add g h)
  add_associative_law {f = f} {h = h} p q r =
      let FG = add-arrow p q in
      let GH = add-arrow q r in
      matrix-ext (add-arrow FG r) (add-arrow p GH)
      (λ i j hi hj. add-entry FG r i j hi hj ∙ ap (λ z. (table_data T).add z (entry_of h i j)) (add-entry p q i j hi hj)
      ∙ V.linear.add_associative (entry-arrow p i j hi hj) (entry-arrow q i j hi hj) (entry-arrow r i j hi hj)
      ∙ ap (λ z. (table_data T).add (entry_of f i j) z) (sym (add-entry q r i j hi hj)) ∙ sym (add-entry p GH i j hi hj))

  add_commutative_law : {a b : List ℕ} {f g : MorphismMatrix} → Arrow (closure_data T) a b f → Arrow (closure_data T) a b g → (closure_data T).add f g ≡ (closure_data T).add g f
  add_commutative_law p q =
      matrix-ext (add-arrow p q) (add-arrow q p)
      (λ i j hi hj. add-entry p q i j hi hj ∙ V.linear.add_commutative (entry-arrow p i j hi hj) (entry-arrow q i j hi hj) ∙ sym (add-entry q p i j hi hj))

  add_zero_law : {a b : List ℕ} {f : MorphismMatrix} → Arrow (closure_data T) a b f → (closure_data T).add f ((closure_data T).zero a b) ≡ f
  add_zero_law {a} {b} {f} p =
      let A = from-objects p in
      let B = to-objects p in
      let Z = zero-arrow a b A B in
      matrix-ext (add-arrow p Z) p
      (λ i j hi hj. add-entry p Z i j hi hj ∙ ap (λ z. (table_data T).add (entry_of f i j) z) (zero-entry a b A B i j hi hj) ∙ V.linear.add_zero (entry-arrow p i j hi hj))

  scale_one_law : {a b : List ℕ} {f : MorphismMatrix} → Arrow (closure_data T) a b f → (closure_data T).scale 1 f ≡ f
  scale_one_law p = matrix-ext (scale-arrow 1 p) p (λ i j hi hj. scale-entry 1 p i j hi hj ∙ V.linear.scale_one (entry-arrow p i j hi hj))

  scale_prime_law : {a b : List ℕ} {f : MorphismMatrix} → Arrow (closure_data T) a b f → (closure_data T).scale T.prime f ≡ (closure_data T).zero a b
  scale_prime_law {a} {b} p =
      let A = from-objects p in
      let B = to-objects p in
      matrix-ext (scale-arrow T.prime p) (zero-arrow a b A B) (λ i j hi hj. scale-entry T.prime p i j hi hj ∙ V.linear.scale_prime (entry-arrow p i j hi hj) ∙ sym (zero-entry a b A B i j hi hj))

  scale_sum_law : {a b : List ℕ} {f : MorphismMatrix} (m n : ℕ) → Arrow (closure_data T) a b f → (closure_data T).scale (m + n) f ≡ (closure_data T).add ((closure_data T).scale m f) ((closure_data T).scale n f)
  scale_sum_law {f = f} m n p =
      let M = scale-arrow m p in
      let N = scale-arrow n p in
      matrix-ext (scale-arrow (m + n) p) (add-arrow M N)
      (λ i j hi hj. scale-entry (m + n) p i j hi hj ∙ V.linear.scale_sum m n (entry-arrow p i j hi hj)
      ∙ ap (λ z. (table_data T).add z ((table_data T).scale n (entry_of f i j))) (sym (scale-entry m p i j hi hj))
      ∙ ap (λ z. (table_data T).add (entry_of ((closure_data T).scale m f) i j) z) (sym (scale-entry n p i j hi hj)) ∙ sym (add-entry M N i j hi hj))

  scale_product_law : {a b : List ℕ} {f : MorphismMatrix} (m n : ℕ) → Arrow (closure_data T) a b f → (closure_data T).scale (m * n) f ≡ (closure_data T).scale m ((closure_data T).scale n f)
  scale_product_law m n p =
      let N = scale-arrow n p in
      matrix-ext (scale-arrow (m * n) p) (scale-arrow m N)
      (λ i j hi hj. scale-entry (m * n) p i j hi hj ∙ V.linear.scale_product m n (entry-arrow p i j hi hj)
      ∙ ap (λ z. (table_data T).scale m z) (sym (scale-entry n p i j hi hj)) ∙ sym (scale-entry m N i j hi hj))

  scale_add_law : {a b : List ℕ} {f g : MorphismMatrix} (n : ℕ) → Arrow (closure_data T) a b f → Arrow (closure_data T) a b g → (closure_data T).scale n ((closure_data T).add f g) ≡ (closure_data T).add ((closure_data T).scale n f) ((closure_data T).scale n g)
  scale_add_law {f = f} {g = g} n p q =
      let S = add-arrow p q in
      let M = scale-arrow n p in
      let N = scale-arrow n q in
      matrix-ext (scale-arrow n S) (add-arrow M N)
      (λ i j hi hj. scale-entry n S i j hi hj ∙ ap (λ z. (table_data T).scale n z) (add-entry p q i j hi hj)
      ∙ V.linear.scale_add n (entry-arrow p i j hi hj) (entry-arrow q i j hi hj)
      ∙ ap (λ z. (table_data T).add z ((table_data T).scale n (entry_of g i j))) (sym (scale-entry n p i j hi hj))
      ∙ ap (λ z. (table_data T).add (entry_of ((closure_data T).scale n f) i j) z) (sym (scale-entry n q i j hi hj)) ∙ sym (add-entry M N i j hi hj))

  pub closure-linear : IsLinear (closure_data T)
  closure-linear = record {
    prime_tabled = V.linear.prime_tabled;
    source_object = λ f p. p.from;
    target_object = λ f p. p.to;
    identity_arrow = identity-arrow;
    compose_arrow = λ p q. compose-arrow p q;
    zero_arrow = zero-arrow;
    add_arrow = λ p q. add-arrow p q;
    scale_arrow = λ n p. scale-arrow n p;
    reflexive = λ p. refl;
    symmetric = λ s. sym s.congruent;
    transitive = λ s t. s.congruent ∙ t.congruent;
    compose_congruent = λ {f' = f'} {g = g} s t. ap (λ z. (closure_data T).compose z g) s.congruent ∙ ap (λ z. (closure_data T).compose f' z) t.congruent;
    add_congruent = λ {f' = f'} {g = g} s t. ap (λ z. (closure_data T).add z g) s.congruent ∙ ap (λ z. (closure_data T).add f' z) t.congruent;
    scale_congruent = λ n s. ap (λ z. (closure_data T).scale n z) s.congruent;
    associative = λ p q r. associative_law p q r;
    unit_left = λ p. unit_left_law p;
    unit_right = λ p. unit_right_law p;
    add_associative = λ p q r. add_associative_law p q r;
    add_commutative = λ p q. add_commutative_law p q;
    add_zero = λ p. add_zero_law p;
    scale_one = λ p. scale_one_law p;
    scale_prime = λ p. scale_prime_law p;
    scale_sum = λ m n p. scale_sum_law m n p;
    scale_product = λ m n p. scale_product_law m n p;
    scale_add = λ n p q. scale_add_law n p q;
    compose_add = λ p q r. compose_add_law p q r;
    add_compose = λ p q r. add_compose_law p q r;
    compose_scale = λ n p q. compose_scale_law n p q;
    scale_compose = λ n p q. scale_compose_law n p q;
  }
