-- Linear categories over the residues modulo a prime: the data and the laws.
use Rattle.std.specs.Prelude.{◌≡◌, ℕ, ◌+◌, ◌*◌, true}
use Rattle.cap_field.specs.Residue.{is_tabled}

-- what a linear category is made of; compose f g is first f, then g, and nothing is claimed yet
pub record CategoryData (Obj Mor : Type 0) : Type 1 where
  pub prime : ℕ
  pub is_object : Obj → Type 0
  pub is_morphism : Mor → Type 0
  pub source : Mor → Obj
  pub target : Mor → Obj
  pub identity : Obj → Mor
  pub compose : Mor → Mor → Mor
  pub congruent : Mor → Mor → Type 0
  pub zero : Obj → Obj → Mor
  pub add : Mor → Mor → Mor
  pub scale : ℕ → Mor → Mor

-- f is a morphism from a to b
pub record Arrow {Obj Mor : Type 0} (C : CategoryData Obj Mor) (a b : Obj) (f : Mor) : Type 0 where
  pub is : C.is_morphism f
  pub from : C.source f ≡ a
  pub to : C.target f ≡ b

-- f and g are congruent morphisms from a to b
pub record Same {Obj Mor : Type 0} (C : CategoryData Obj Mor) (a b : Obj) (f g : Mor) : Type 0 where
  pub left : Arrow C a b f
  pub right : Arrow C a b g
  pub congruent : C.congruent f g

-- a linear category over the field of p elements: a category enriched in vector spaces, all laws up to congruence
pub record IsLinear {Obj Mor : Type 0} (C : CategoryData Obj Mor) : Type 0 where
  pub prime_tabled : is_tabled C.prime ≡ true
  pub source_object : (f : Mor) → C.is_morphism f → C.is_object (C.source f)
  pub target_object : (f : Mor) → C.is_morphism f → C.is_object (C.target f)
  pub identity_arrow : (a : Obj) → C.is_object a → Arrow C a a (C.identity a)
  pub compose_arrow : {a b c : Obj} {f g : Mor} → Arrow C a b f → Arrow C b c g → Arrow C a c (C.compose f g)
  pub zero_arrow : (a b : Obj) → C.is_object a → C.is_object b → Arrow C a b (C.zero a b)
  pub add_arrow : {a b : Obj} {f g : Mor} → Arrow C a b f → Arrow C a b g → Arrow C a b (C.add f g)
  pub scale_arrow : {a b : Obj} {f : Mor} (n : ℕ) → Arrow C a b f → Arrow C a b (C.scale n f)
  pub reflexive : {a b : Obj} {f : Mor} → Arrow C a b f → C.congruent f f
  pub symmetric : {a b : Obj} {f g : Mor} → Same C a b f g → C.congruent g f
  pub transitive : {a b : Obj} {f g h : Mor} → Same C a b f g → Same C a b g h → C.congruent f h
  pub compose_congruent : {a b c : Obj} {f f' g g' : Mor} → Same C a b f f' → Same C b c g g' → C.congruent (C.compose f g) (C.compose f' g')
  pub add_congruent : {a b : Obj} {f f' g g' : Mor} → Same C a b f f' → Same C a b g g' → C.congruent (C.add f g) (C.add f' g')
  pub scale_congruent : {a b : Obj} {f f' : Mor} (n : ℕ) → Same C a b f f' → C.congruent (C.scale n f) (C.scale n f')
  pub associative : {a b c d : Obj} {f g h : Mor} → Arrow C a b f → Arrow C b c g → Arrow C c d h → C.congruent (C.compose (C.compose f g) h) (C.compose f (C.compose g h))
  pub unit_left : {a b : Obj} {f : Mor} → Arrow C a b f → C.congruent (C.compose (C.identity a) f) f
  pub unit_right : {a b : Obj} {f : Mor} → Arrow C a b f → C.congruent (C.compose f (C.identity b)) f
  pub add_associative : {a b : Obj} {f g h : Mor} → Arrow C a b f → Arrow C a b g → Arrow C a b h → C.congruent (C.add (C.add f g) h) (C.add f (C.add g h))
  pub add_commutative : {a b : Obj} {f g : Mor} → Arrow C a b f → Arrow C a b g → C.congruent (C.add f g) (C.add g f)
  pub add_zero : {a b : Obj} {f : Mor} → Arrow C a b f → C.congruent (C.add f (C.zero a b)) f
  pub scale_one : {a b : Obj} {f : Mor} → Arrow C a b f → C.congruent (C.scale 1 f) f
  pub scale_prime : {a b : Obj} {f : Mor} → Arrow C a b f → C.congruent (C.scale C.prime f) (C.zero a b)
  pub scale_sum : {a b : Obj} {f : Mor} (m n : ℕ) → Arrow C a b f → C.congruent (C.scale (m + n) f) (C.add (C.scale m f) (C.scale n f))
  pub scale_product : {a b : Obj} {f : Mor} (m n : ℕ) → Arrow C a b f → C.congruent (C.scale (m * n) f) (C.scale m (C.scale n f))
  pub scale_add : {a b : Obj} {f g : Mor} (n : ℕ) → Arrow C a b f → Arrow C a b g → C.congruent (C.scale n (C.add f g)) (C.add (C.scale n f) (C.scale n g))
  pub compose_add : {a b c : Obj} {f g h : Mor} → Arrow C a b f → Arrow C b c g → Arrow C b c h → C.congruent (C.compose f (C.add g h)) (C.add (C.compose f g) (C.compose f h))
  pub add_compose : {a b c : Obj} {f g h : Mor} → Arrow C a b f → Arrow C a b g → Arrow C b c h → C.congruent (C.compose (C.add f g) h) (C.add (C.compose f h) (C.compose g h))
  pub compose_scale : {a b c : Obj} {f g : Mor} (n : ℕ) → Arrow C a b f → Arrow C b c g → C.congruent (C.compose f (C.scale n g)) (C.scale n (C.compose f g))
  pub scale_compose : {a b c : Obj} {f g : Mor} (n : ℕ) → Arrow C a b f → Arrow C b c g → C.congruent (C.compose (C.scale n f) g) (C.scale n (C.compose f g))
