-- What factors through a morphism: an ideal, and congruence modulo it.
use Rattle.std.proofs.Common.{ℕ, ◌-◌}
use Rattle.cap_laws.specs.Linear.{CategoryData, IsLinear, Arrow, Same}
use Rattle.cap_laws.specs.Universal.{subtract}
use Rattle.cap_laws.specs.Factor.{Through}
use Rattle.cap_laws.proofs.Calculus.{from-object, same, back, ◌⟫◌ as join, composed, added, scaled, assoc, unit-left, add-compose, scale-compose, zero-compose, subtract-add, subtract-from-equal}
use Rattle.cap_laws.proofs.Differences.{subtract-swap, telescope}

module _ {Obj Mor : Type 0} {C : CategoryData Obj Mor} (L : IsLinear C) where
  infixr 5 ◌⟫◌
  ◌⟫◌ : {a b : Obj} {f g h : Mor} → Same C a b f g → Same C a b g h → Same C a b f h
  ◌⟫◌ s t = join L s t

  -- what factors through a morphism is an ideal
  pub through-same : {x r b : Obj} {rho f g : Mor} → Same C x b f g → Through C x r b rho g → Through C x r b rho f
  through-same s t = record { over = t.over; by = t.by; arrow = t.arrow; holds = s ⟫ t.holds }

  pub through-by : {x r b : Obj} {rho s : Mor} → Arrow C x r s → Arrow C r b rho → Through C x r b rho (C.compose s rho)
  through-by {x} {r} {b} {rho} {s} p o = record { over = o; by = s; arrow = p; holds = same L (L.compose_arrow p o) }

  pub through-self : {r b : Obj} {rho : Mor} → Arrow C r b rho → Through C r r b rho rho
  through-self {r} {b} {rho} o = through-same (back L (unit-left L o)) (through-by (L.identity_arrow r (from-object L o)) o)

  pub through-zero : {x r b : Obj} {rho : Mor} → C.is_object x → Arrow C r b rho → Through C x r b rho (C.zero x b)
  through-zero {x} {r} {b} {rho} i o = through-same (back L (zero-compose L i o)) (through-by (L.zero_arrow x r i (from-object L o)) o)

  pub through-add : {x r b : Obj} {rho f g : Mor} → Through C x r b rho f → Through C x r b rho g → Through C x r b rho (C.add f g)
  through-add s t = through-same (added L s.holds t.holds ⟫ back L (add-compose L s.arrow t.arrow s.over)) (through-by (L.add_arrow s.arrow t.arrow) s.over)

  pub through-scale : {x r b : Obj} {rho f : Mor} (n : ℕ) → Through C x r b rho f → Through C x r b rho (C.scale n f)
  through-scale n t = through-same (scaled L n t.holds ⟫ back L (scale-compose L n t.arrow t.over)) (through-by (L.scale_arrow n t.arrow) t.over)

  pub through-subtract : {x r b : Obj} {rho f g : Mor} → Through C x r b rho f → Through C x r b rho g → Through C x r b rho (subtract C f g)
  through-subtract s t = through-add s (through-scale (C.prime - 1) t)

  -- u·f, where f factors
  pub through-before : {y x r b : Obj} {rho u f : Mor} → Arrow C y x u → Through C x r b rho f → Through C y r b rho (C.compose u f)
  through-before p t = through-same (composed L (same L p) t.holds ⟫ back L (assoc L p t.arrow t.over)) (through-by (L.compose_arrow p t.arrow) t.over)

  -- f·g, where f factors through rho, and rho·g through rho'
  pub through-after : {x r b r' c : Obj} {rho rho' f g : Mor} → Through C x r b rho f → Arrow C b c g → Through C r r' c rho' (C.compose rho g) → Through C x r' c rho' (C.compose f g)
  through-after t q s = through-same (composed L t.holds (same L q) ⟫ assoc L t.arrow t.over q) (through-before t.arrow s)

  -- congruence modulo a relation
  pub modulo-same : {x r b : Obj} {rho f g : Mor} → Arrow C r b rho → Same C x b f g → Through C x r b rho (subtract C f g)
  modulo-same o s = through-same (subtract-from-equal L s) (through-zero (from-object L s.left) o)

  pub modulo-back : {x r b : Obj} {rho f g : Mor} → Arrow C x b f → Arrow C x b g → Through C x r b rho (subtract C f g) → Through C x r b rho (subtract C g f)
  modulo-back p q t = through-same (subtract-swap L p q) (through-scale (C.prime - 1) t)

  pub modulo-join : {x r b : Obj} {rho f g h : Mor} → Arrow C x b f → Arrow C x b g → Arrow C x b h → Through C x r b rho (subtract C f g) → Through C x r b rho (subtract C g h) → Through C x r b rho (subtract C f h)
  modulo-join p q r s t = through-same (back L (telescope L p q r)) (through-add s t)

  -- f factors where g and f − g do
  pub through-modulo : {x r b : Obj} {rho f g : Mor} → Arrow C x b f → Arrow C x b g → Through C x r b rho (subtract C f g) → Through C x r b rho g → Through C x r b rho f
  through-modulo p q s t = through-same (back L (subtract-add L p q)) (through-add s t)

  pub through-other : {x r b : Obj} {rho f g : Mor} → Arrow C x b f → Arrow C x b g → Through C x r b rho (subtract C g f) → Through C x r b rho g → Through C x r b rho f
  through-other p q s t = through-modulo p q (modulo-back q p s) t
