-- Reckoning with sums, multiples and differences of congruent morphisms.
use Rattle.std.proofs.Common.{◌≡◌, ℕ, ◌+◌, ◌*◌, ◌-◌, sym, subst, arith}
use Rattle.cap_laws.specs.Linear.{CategoryData, IsLinear, Arrow, Same}
use Rattle.cap_laws.specs.Universal.{negate, subtract}
use Rattle.cap_laws.proofs.Calculus.{same, back, ◌⟫◌ as join, added, scaled, zero-of, add-assoc, add-swap, add-zero, zero-add, compose-scale, scale-compose, negate-arrow, subtract-arrow, add-negate, negate-add, subtract-add, subtract-compose, compose-subtract, subtracted}

module _ {Obj Mor : Type 0} {C : CategoryData Obj Mor} (L : IsLinear C) where
  infixr 5 ◌⟫◌
  ◌⟫◌ : {a b : Obj} {f g h : Mor} → Same C a b f g → Same C a b g h → Same C a b f h
  ◌⟫◌ s t = join L s t

  -- f − 0 = f
  pub subtract-zero : {a b : Obj} {f : Mor} → Arrow C a b f → Same C a b (subtract C f (C.zero a b)) f
  subtract-zero p = back L (add-zero L (subtract-arrow L p (zero-of L p))) ⟫ subtract-add L p (zero-of L p)

  -- (f − g) + (g − h) = f − h
  pub telescope : {a b : Obj} {f g h : Mor} → Arrow C a b f → Arrow C a b g → Arrow C a b h → Same C a b (C.add (subtract C f g) (subtract C g h)) (subtract C f h)
  telescope p q r =
      add-assoc L p (negate-arrow L q) (subtract-arrow L q r)
      ⟫ added L (same L p) (back L (add-assoc L (negate-arrow L q) q (negate-arrow L r)) ⟫ added L (negate-add L q) (same L (negate-arrow L r)) ⟫ zero-add L (negate-arrow L r))

  -- f + g = 0 gives f = −g
  pub negate-of : {a b : Obj} {f g : Mor} → Arrow C a b f → Arrow C a b g → Same C a b (C.add f g) (C.zero a b) → Same C a b f (negate C g)
  negate-of p q s = back L (add-zero L p) ⟫ added L (same L p) (back L (add-negate L q)) ⟫ back L (add-assoc L p q (negate-arrow L q)) ⟫ added L s (same L (negate-arrow L q)) ⟫ zero-add L (negate-arrow L q)

  -- g − f = −(f − g)
  pub subtract-swap : {a b : Obj} {f g : Mor} → Arrow C a b f → Arrow C a b g → Same C a b (subtract C g f) (negate C (subtract C f g))
  subtract-swap p q = negate-of (subtract-arrow L q p) (subtract-arrow L p q) (telescope q p q ⟫ add-negate L q)

  -- (f + g) + (h + k) = (f + h) + (g + k)
  pub middle : {a b : Obj} {f g h k : Mor} → Arrow C a b f → Arrow C a b g → Arrow C a b h → Arrow C a b k → Same C a b (C.add (C.add f g) (C.add h k)) (C.add (C.add f h) (C.add g k))
  middle p q r t =
      add-assoc L p q (L.add_arrow r t)
      ⟫ added L (same L p) (back L (add-assoc L q r t) ⟫ added L (add-swap L q r) (same L t) ⟫ add-assoc L r q t)
      ⟫ back L (add-assoc L p r (L.add_arrow q t))

  pub scale-add : {a b : Obj} {f g : Mor} (n : ℕ) → Arrow C a b f → Arrow C a b g → Same C a b (C.scale n (C.add f g)) (C.add (C.scale n f) (C.scale n g))
  scale-add n p q = record { left = L.scale_arrow n (L.add_arrow p q); right = L.add_arrow (L.scale_arrow n p) (L.scale_arrow n q); congruent = L.scale_add n p q }

  pub scale-product : {a b : Obj} {f : Mor} (m n : ℕ) → Arrow C a b f → Same C a b (C.scale (m * n) f) (C.scale m (C.scale n f))
  scale-product m n p = record { left = L.scale_arrow (m * n) p; right = L.scale_arrow m (L.scale_arrow n p); congruent = L.scale_product m n p }

  pub scale-swap : {a b : Obj} {f : Mor} (m n : ℕ) → Arrow C a b f → Same C a b (C.scale m (C.scale n f)) (C.scale n (C.scale m f))
  scale-swap {a} {b} {f} m n p =
      let e : m * n ≡ n * m = omega arith in
      back L (scale-product m n p) ⟫ subst (λ k. Same C a b (C.scale k f) (C.scale n (C.scale m f))) (sym e) (scale-product n m p)

  -- (f + g) − (h + k) = (f − h) + (g − k)
  pub subtract-sums : {a b : Obj} {f g h k : Mor} → Arrow C a b f → Arrow C a b g → Arrow C a b h → Arrow C a b k → Same C a b (subtract C (C.add f g) (C.add h k)) (C.add (subtract C f h) (subtract C g k))
  subtract-sums p q r t = added L (same L (L.add_arrow p q)) (scale-add (C.prime - 1) r t) ⟫ middle p q (negate-arrow L r) (negate-arrow L t)

  -- n·f − n·g = n·(f − g)
  pub subtract-scaled : {a b : Obj} {f g : Mor} (n : ℕ) → Arrow C a b f → Arrow C a b g → Same C a b (subtract C (C.scale n f) (C.scale n g)) (C.scale n (subtract C f g))
  subtract-scaled n p q = added L (same L (L.scale_arrow n p)) (scale-swap (C.prime - 1) n q) ⟫ back L (scale-add n p (negate-arrow L q))

  -- f·g − f'·g' = (f − f')·g + f'·(g − g')
  pub subtract-products : {a b c : Obj} {f f' g g' : Mor} → Arrow C a b f → Arrow C a b f' → Arrow C b c g → Arrow C b c g' → Same C a c (subtract C (C.compose f g) (C.compose f' g')) (C.add (C.compose (subtract C f f') g) (C.compose f' (subtract C g g')))
  subtract-products p p' q q' =
      back L (telescope (L.compose_arrow p q) (L.compose_arrow p' q) (L.compose_arrow p' q'))
      ⟫ added L (back L (subtract-compose L p p' q)) (back L (compose-subtract L p' q q'))

  -- h = f + g gives h − g = f
  pub subtract-part : {a b : Obj} {f g h : Mor} → Arrow C a b f → Arrow C a b g → Same C a b h (C.add f g) → Same C a b (subtract C h g) f
  subtract-part p q s = added L s (same L (negate-arrow L q)) ⟫ add-assoc L p q (negate-arrow L q) ⟫ added L (same L p) (add-negate L q) ⟫ add-zero L p

  -- multiples
  pub scale-one : {a b : Obj} {f : Mor} → Arrow C a b f → Same C a b (C.scale 1 f) f
  scale-one p = record { left = L.scale_arrow 1 p; right = p; congruent = L.scale_one p }

  pub scale-sum : {a b : Obj} {f : Mor} (m n : ℕ) → Arrow C a b f → Same C a b (C.scale (m + n) f) (C.add (C.scale m f) (C.scale n f))
  scale-sum m n p = record { left = L.scale_arrow (m + n) p; right = L.add_arrow (L.scale_arrow m p) (L.scale_arrow n p); congruent = L.scale_sum m n p }

  -- f + g = f gives g = 0
  pub zero-part : {a b : Obj} {f g : Mor} → Arrow C a b f → Arrow C a b g → Same C a b (C.add f g) f → Same C a b g (C.zero a b)
  zero-part p q s =
      back L (zero-add L q) ⟫ added L (back L (negate-add L p)) (same L q) ⟫ add-assoc L (negate-arrow L p) p q
      ⟫ added L (same L (negate-arrow L p)) s ⟫ negate-add L p

  -- 0·f = 0 and n·0 = 0
  pub scale-by-zero : {a b : Obj} {f : Mor} → Arrow C a b f → Same C a b (C.scale 0 f) (C.zero a b)
  scale-by-zero p = zero-part (L.scale_arrow 0 p) (L.scale_arrow 0 p) (back L (scale-sum 0 0 p))

  pub scale-zero : {a b : Obj} (n : ℕ) → C.is_object a → C.is_object b → Same C a b (C.scale n (C.zero a b)) (C.zero a b)
  scale-zero {a} {b} n o o' =
      let z = L.zero_arrow a b o o' in
      zero-part (L.scale_arrow n z) (L.scale_arrow n z) (back L (scale-add n z z) ⟫ scaled L n (add-zero L z))

  -- negation: −0 = 0, −(−f) = f, (−f)·g = −(f·g) = f·(−g), −(f + g) = −f + −g
  pub negated : {a b : Obj} {f g : Mor} → Same C a b f g → Same C a b (negate C f) (negate C g)
  negated s = scaled L (C.prime - 1) s

  pub negate-zero : {a b : Obj} → C.is_object a → C.is_object b → Same C a b (negate C (C.zero a b)) (C.zero a b)
  negate-zero o o' = scale-zero (C.prime - 1) o o'

  pub negate-negate : {a b : Obj} {f : Mor} → Arrow C a b f → Same C a b (negate C (negate C f)) f
  negate-negate p = back L (negate-of p (negate-arrow L p) (add-negate L p))

  pub negate-compose : {a b c : Obj} {f g : Mor} → Arrow C a b f → Arrow C b c g → Same C a c (C.compose (negate C f) g) (negate C (C.compose f g))
  negate-compose p q = scale-compose L (C.prime - 1) p q

  pub compose-negate : {a b c : Obj} {f g : Mor} → Arrow C a b f → Arrow C b c g → Same C a c (C.compose f (negate C g)) (negate C (C.compose f g))
  compose-negate p q = compose-scale L (C.prime - 1) p q

  pub negate-sum : {a b : Obj} {f g : Mor} → Arrow C a b f → Arrow C a b g → Same C a b (negate C (C.add f g)) (C.add (negate C f) (negate C g))
  negate-sum p q = scale-add (C.prime - 1) p q

  -- f − f = 0, 0 − f = −f, and f + (−g) = 0 exactly where f − g is
  pub subtract-self : {a b : Obj} {f : Mor} → Arrow C a b f → Same C a b (subtract C f f) (C.zero a b)
  subtract-self p = add-negate L p

  pub zero-subtract : {a b : Obj} {f : Mor} → Arrow C a b f → Same C a b (subtract C (C.zero a b) f) (negate C f)
  zero-subtract p = zero-add L (negate-arrow L p)

  -- (f + g) − g = f
  pub add-subtract : {a b : Obj} {f g : Mor} → Arrow C a b f → Arrow C a b g → Same C a b (subtract C (C.add f g) g) f
  add-subtract p q = subtract-part p q (same L (L.add_arrow p q))

  -- f + h = g + h gives f = g
  pub add-cancels : {a b : Obj} {f g h : Mor} → Arrow C a b f → Arrow C a b g → Arrow C a b h → Same C a b (C.add f h) (C.add g h) → Same C a b f g
  add-cancels p q r s = back L (add-subtract p r) ⟫ subtracted L s (same L r) ⟫ add-subtract q r
