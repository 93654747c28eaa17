-- Reckoning with congruent morphisms in a linear category.
use Rattle.std.proofs.Common.{◌≡◌, ℕ, ◌+◌, ◌-◌, subst, arith}
use Rattle.cap_field.proofs.Fermat.{tabled_range}
use Rattle.cap_laws.specs.Linear.{CategoryData, IsLinear, Arrow, Same}
use Rattle.cap_laws.specs.Universal.{negate, subtract}

module _ {Obj Mor : Type 0} {C : CategoryData Obj Mor} (L : IsLinear C) where
  infixr 5 ◌⟫◌
  -- the ends of a morphism are objects
  pub from-object : {a b : Obj} {f : Mor} → Arrow C a b f → C.is_object a
  from-object {a} {b} {f} p = subst (λ x. C.is_object x) p.from (L.source_object f p.is)

  pub to-object : {a b : Obj} {f : Mor} → Arrow C a b f → C.is_object b
  to-object {a} {b} {f} p = subst (λ x. C.is_object x) p.to (L.target_object f p.is)

  pub same : {a b : Obj} {f : Mor} → Arrow C a b f → Same C a b f f
  same p = record { left = p; right = p; congruent = L.reflexive p }

  pub back : {a b : Obj} {f g : Mor} → Same C a b f g → Same C a b g f
  back s = record { left = s.right; right = s.left; congruent = L.symmetric s }

  pub ◌⟫◌ : {a b : Obj} {f g h : Mor} → Same C a b f g → Same C a b g h → Same C a b f h
  ◌⟫◌ s t = record { left = s.left; right = t.right; congruent = L.transitive s t }

  pub composed : {a b c : Obj} {f f' g g' : Mor} → Same C a b f f' → Same C b c g g' → Same C a c (C.compose f g) (C.compose f' g')
  composed s t = record { left = L.compose_arrow s.left t.left; right = L.compose_arrow s.right t.right; congruent = L.compose_congruent s t }

  pub added : {a b : Obj} {f f' g g' : Mor} → Same C a b f f' → Same C a b g g' → Same C a b (C.add f g) (C.add f' g')
  added s t = record { left = L.add_arrow s.left t.left; right = L.add_arrow s.right t.right; congruent = L.add_congruent s t }

  pub scaled : {a b : Obj} {f f' : Mor} (n : ℕ) → Same C a b f f' → Same C a b (C.scale n f) (C.scale n f')
  scaled n s = record { left = L.scale_arrow n s.left; right = L.scale_arrow n s.right; congruent = L.scale_congruent n s }

  pub assoc : {a b c d : Obj} {f g h : Mor} → Arrow C a b f → Arrow C b c g → Arrow C c d h → Same C a d (C.compose (C.compose f g) h) (C.compose f (C.compose g h))
  assoc p q r = record { left = L.compose_arrow (L.compose_arrow p q) r; right = L.compose_arrow p (L.compose_arrow q r); congruent = L.associative p q r }

  pub unit-left : {a b : Obj} {f : Mor} → Arrow C a b f → Same C a b (C.compose (C.identity a) f) f
  unit-left {a} {b} {f} p = record { left = L.compose_arrow (L.identity_arrow a (from-object p)) p; right = p; congruent = L.unit_left p }

  pub unit-right : {a b : Obj} {f : Mor} → Arrow C a b f → Same C a b (C.compose f (C.identity b)) f
  unit-right {a} {b} {f} p = record { left = L.compose_arrow p (L.identity_arrow b (to-object p)); right = p; congruent = L.unit_right p }

  pub zero-of : {a b : Obj} {f : Mor} → Arrow C a b f → Arrow C a b (C.zero a b)
  zero-of {a} {b} {f} p = L.zero_arrow a b (from-object p) (to-object p)

  pub add-assoc : {a b : Obj} {f g h : Mor} → Arrow C a b f → Arrow C a b g → Arrow C a b h → Same C a b (C.add (C.add f g) h) (C.add f (C.add g h))
  add-assoc p q r = record { left = L.add_arrow (L.add_arrow p q) r; right = L.add_arrow p (L.add_arrow q r); congruent = L.add_associative p q r }

  pub add-swap : {a b : Obj} {f g : Mor} → Arrow C a b f → Arrow C a b g → Same C a b (C.add f g) (C.add g f)
  add-swap p q = record { left = L.add_arrow p q; right = L.add_arrow q p; congruent = L.add_commutative p q }

  pub add-zero : {a b : Obj} {f : Mor} → Arrow C a b f → Same C a b (C.add f (C.zero a b)) f
  add-zero p = record { left = L.add_arrow p (zero-of p); right = p; congruent = L.add_zero p }

  pub zero-add : {a b : Obj} {f : Mor} → Arrow C a b f → Same C a b (C.add (C.zero a b) f) f
  zero-add p = add-swap (zero-of p) p ⟫ add-zero p

  pub compose-add : {a b c : Obj} {f g h : Mor} → Arrow C a b f → Arrow C b c g → Arrow C b c h → Same C a c (C.compose f (C.add g h)) (C.add (C.compose f g) (C.compose f h))
  compose-add p q r = record { left = L.compose_arrow p (L.add_arrow q r); right = L.add_arrow (L.compose_arrow p q) (L.compose_arrow p r); congruent = L.compose_add p q r }

  pub add-compose : {a b c : Obj} {f g h : Mor} → Arrow C a b f → Arrow C a b g → Arrow C b c h → Same C a c (C.compose (C.add f g) h) (C.add (C.compose f h) (C.compose g h))
  add-compose p q r = record { left = L.compose_arrow (L.add_arrow p q) r; right = L.add_arrow (L.compose_arrow p r) (L.compose_arrow q r); congruent = L.add_compose p q r }

  pub compose-scale : {a b c : Obj} {f g : Mor} (n : ℕ) → Arrow C a b f → Arrow C b c g → Same C a c (C.compose f (C.scale n g)) (C.scale n (C.compose f g))
  compose-scale n p q = record { left = L.compose_arrow p (L.scale_arrow n q); right = L.scale_arrow n (L.compose_arrow p q); congruent = L.compose_scale n p q }

  pub scale-compose : {a b c : Obj} {f g : Mor} (n : ℕ) → Arrow C a b f → Arrow C b c g → Same C a c (C.compose (C.scale n f) g) (C.scale n (C.compose f g))
  scale-compose n p q = record { left = L.compose_arrow (L.scale_arrow n p) q; right = L.scale_arrow n (L.compose_arrow p q); congruent = L.scale_compose n p q }

  pub scale-prime : {a b : Obj} {f : Mor} → Arrow C a b f → Same C a b (C.scale C.prime f) (C.zero a b)
  scale-prime p = record { left = L.scale_arrow C.prime p; right = zero-of p; congruent = L.scale_prime p }

  -- 0 = p·0, so composing with 0 gives 0
  pub compose-zero : {a b c : Obj} {f : Mor} → Arrow C a b f → C.is_object c → Same C a c (C.compose f (C.zero b c)) (C.zero a c)
  compose-zero {a} {b} {c} {f} p o =
      let z : Arrow C b c (C.zero b c) = L.zero_arrow b c (to-object p) o in
      composed (same p) (back (scale-prime z)) ⟫ compose-scale C.prime p z ⟫ scale-prime (L.compose_arrow p z)

  pub zero-compose : {a b c : Obj} {f : Mor} → C.is_object a → Arrow C b c f → Same C a c (C.compose (C.zero a b) f) (C.zero a c)
  zero-compose {a} {b} {c} {f} o p =
      let z : Arrow C a b (C.zero a b) = L.zero_arrow a b o (from-object p) in
      composed (back (scale-prime z)) (same p) ⟫ scale-compose C.prime z p ⟫ scale-prime (L.compose_arrow z p)

  pub negate-arrow : {a b : Obj} {f : Mor} → Arrow C a b f → Arrow C a b (negate C f)
  negate-arrow p = L.scale_arrow (C.prime - 1) p

  pub subtract-arrow : {a b : Obj} {f g : Mor} → Arrow C a b f → Arrow C a b g → Arrow C a b (subtract C f g)
  subtract-arrow p q = L.add_arrow p (negate-arrow q)

  -- f + (−f) = 0
  pub add-negate : {a b : Obj} {f : Mor} → Arrow C a b f → Same C a b (C.add f (negate C f)) (C.zero a b)
  add-negate {a} {b} {f} p =
      let one : Same C a b f (C.scale 1 f) = record { left = p; right = L.scale_arrow 1 p; congruent = L.symmetric (record { left = L.scale_arrow 1 p; right = p; congruent = L.scale_one p }) } in
      let sum : Same C a b (C.scale (1 + (C.prime - 1)) f) (C.add (C.scale 1 f) (negate C f)) = record { left = L.scale_arrow (1 + (C.prime - 1)) p; right = L.add_arrow (L.scale_arrow 1 p) (negate-arrow p); congruent = L.scale_sum 1 (C.prime - 1) p } in
      let range = tabled_range C.prime L.prime_tabled in
      let e : 1 + (C.prime - 1) ≡ C.prime = omega (arith, range.0) in
      let sum' : Same C a b (C.scale C.prime f) (C.add (C.scale 1 f) (negate C f)) = subst (λ n. Same C a b (C.scale n f) (C.add (C.scale 1 f) (negate C f))) e sum in
      added one (same (negate-arrow p)) ⟫ back sum' ⟫ scale-prime p

  pub negate-add : {a b : Obj} {f : Mor} → Arrow C a b f → Same C a b (C.add (negate C f) f) (C.zero a b)
  negate-add p = add-swap (negate-arrow p) p ⟫ add-negate p

  -- (f − g) + g = f
  pub subtract-add : {a b : Obj} {f g : Mor} → Arrow C a b f → Arrow C a b g → Same C a b (C.add (subtract C f g) g) f
  subtract-add p q = add-assoc p (negate-arrow q) q ⟫ added (same p) (negate-add q) ⟫ add-zero p

  -- f − g = 0 exactly where f = g
  pub equal-from-subtract : {a b : Obj} {f g : Mor} → Arrow C a b f → Arrow C a b g → Same C a b (subtract C f g) (C.zero a b) → Same C a b f g
  equal-from-subtract p q s = back (subtract-add p q) ⟫ added s (same q) ⟫ zero-add q

  pub subtract-from-equal : {a b : Obj} {f g : Mor} → Same C a b f g → Same C a b (subtract C f g) (C.zero a b)
  subtract-from-equal s = added s (same (negate-arrow s.right)) ⟫ add-negate s.right

  pub subtracted : {a b : Obj} {f f' g g' : Mor} → Same C a b f f' → Same C a b g g' → Same C a b (subtract C f g) (subtract C f' g')
  subtracted s t = added s (scaled (C.prime - 1) t)

  -- u·(f − g) = u·f − u·g
  pub compose-subtract : {a b c : Obj} {u f g : Mor} → Arrow C a b u → Arrow C b c f → Arrow C b c g → Same C a c (C.compose u (subtract C f g)) (subtract C (C.compose u f) (C.compose u g))
  compose-subtract u p q = compose-add u p (negate-arrow q) ⟫ added (same (L.compose_arrow u p)) (compose-scale (C.prime - 1) u q)

  pub subtract-compose : {a b c : Obj} {f g u : Mor} → Arrow C a b f → Arrow C a b g → Arrow C b c u → Same C a c (C.compose (subtract C f g) u) (subtract C (C.compose f u) (C.compose g u))
  subtract-compose p q u = add-compose p (negate-arrow q) u ⟫ added (same (L.compose_arrow p u)) (scale-compose (C.prime - 1) q u)

  -- u·f = u·g exactly where u·(f − g) = 0
  pub zero-after : {a b c : Obj} {u f g : Mor} → Arrow C a b u → Arrow C b c f → Arrow C b c g → Same C a c (C.compose u f) (C.compose u g) → Same C a c (C.compose u (subtract C f g)) (C.zero a c)
  zero-after u p q s = compose-subtract u p q ⟫ subtract-from-equal s

  pub equal-after : {a b c : Obj} {u f g : Mor} → Arrow C a b u → Arrow C b c f → Arrow C b c g → Same C a c (C.compose u (subtract C f g)) (C.zero a c) → Same C a c (C.compose u f) (C.compose u g)
  equal-after u p q s = equal-from-subtract (L.compose_arrow u p) (L.compose_arrow u q) (back (compose-subtract u p q) ⟫ s)
