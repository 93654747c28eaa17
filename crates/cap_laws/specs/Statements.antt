-- The laws of the calculus, as statements on the data of a category.
use Rattle.std.specs.Prelude.{ℕ, ◌↔◌, List, Option}
use Rattle.cap_laws.specs.Linear.{CategoryData, Arrow, Same}
use Rattle.cap_laws.specs.Universal.{opposite, negate, subtract, IsMono, IsWeakKernel, IsKernel, IsDirectSum, IsLift, IsColift, HasHalfAbelian, IsoOver}
use Rattle.cap_laws.specs.Factor.{Through, IsPreimage, rows}
use Rattle.cap_laws.specs.Split.{HasSplits}
use Rattle.cap_laws.specs.Systems.{IsSystem, IsSolution, AnswersSystem, term_system, one_system, first_of}

-- congruent morphisms may be put for one another in composites, sums and multiples
pub record CongruenceCalculus {Obj Mor : Type 0} (C : CategoryData Obj Mor) : Type 0 where
  pub same : {a b : Obj} {f : Mor} → Arrow C a b f → Same C a b f f
  pub back : {a b : Obj} {f g : Mor} → Same C a b f g → Same C a b g f
  pub join : {a b : Obj} {f g h : Mor} → Same C a b f g → Same C a b g h → Same C a b f h
  pub composed : {a b c : Obj} {f f' g g' : Mor} → Same C a b f f' → Same C b c g g' → Same C a c (C.compose f g) (C.compose f' g')
  pub added : {a b : Obj} {f f' g g' : Mor} → Same C a b f f' → Same C a b g g' → Same C a b (C.add f g) (C.add f' g')
  pub scaled : {a b : Obj} {f f' : Mor} (n : ℕ) → Same C a b f f' → Same C a b (C.scale n f) (C.scale n f')

-- f − g = 0 exactly where f = g
pub record DifferenceIsZero {Obj Mor : Type 0} (C : CategoryData Obj Mor) : Type 0 where
  pub law : {a b : Obj} {f g : Mor} → Arrow C a b f → Arrow C a b g → Same C a b (subtract C f g) (C.zero a b) ↔ Same C a b f g

-- f·0 = 0 and 0·f = 0
pub record ZeroComposes {Obj Mor : Type 0} (C : CategoryData Obj Mor) : Type 0 where
  pub right : {a b c : Obj} {f : Mor} → Arrow C a b f → C.is_object c → Same C a c (C.compose f (C.zero b c)) (C.zero a c)
  pub left : {a b c : Obj} {f : Mor} → C.is_object a → Arrow C b c f → Same C a c (C.compose (C.zero a b) f) (C.zero a c)

-- f + (−f) = 0, −(−f) = f, (−f)·g = −(f·g) = f·(−g)
pub record Negation {Obj Mor : Type 0} (C : CategoryData Obj Mor) : Type 0 where
  pub sum : {a b : Obj} {f : Mor} → Arrow C a b f → Same C a b (C.add f (negate C f)) (C.zero a b)
  pub twice : {a b : Obj} {f : Mor} → Arrow C a b f → Same C a b (negate C (negate C f)) f
  pub first : {a b c : Obj} {f g : Mor} → Arrow C a b f → Arrow C b c g → Same C a c (C.compose (negate C f) g) (negate C (C.compose f g))
  pub second : {a b c : Obj} {f g : Mor} → Arrow C a b f → Arrow C b c g → Same C a c (C.compose f (negate C g)) (negate C (C.compose f g))

-- u·(f − g) = u·f − u·g and (f − g)·u = f·u − g·u
pub record DifferencesCompose {Obj Mor : Type 0} (C : CategoryData Obj Mor) : Type 0 where
  pub left : {a b c : Obj} {u f g : Mor} → Arrow C a b u → Arrow C b c f → Arrow C b c g → Same C a c (C.compose u (subtract C f g)) (subtract C (C.compose u f) (C.compose u g))
  pub right : {a b c : Obj} {f g u : Mor} → Arrow C a b f → Arrow C a b g → Arrow C b c u → Same C a c (C.compose (subtract C f g) u) (subtract C (C.compose f u) (C.compose g u))

-- f is mono exactly where v·f = w·f gives v = w
pub record MonoCancels {Obj Mor : Type 0} (C : CategoryData Obj Mor) : Type 0 where
  pub cancels : {x a b : Obj} {f v w : Mor} → IsMono C a b f → Arrow C x a v → Arrow C x a w → Same C x b (C.compose v f) (C.compose w f) → Same C x a v w
  pub mono : {a b : Obj} {f : Mor} → Arrow C a b f → ((x : Obj) (v w : Mor) → Arrow C x a v → Arrow C x a w → Same C x b (C.compose v f) (C.compose w f) → Same C x a v w) → IsMono C a b f

-- a kernel is mono
pub record KernelIsMono {Obj Mor : Type 0} (C : CategoryData Obj Mor) : Type 0 where
  pub law : {k a b : Obj} {f i : Mor} → Arrow C a b f → IsKernel C k a b f i → IsMono C k a i

-- two kernels of one morphism are isomorphic over its source
pub record KernelsIsomorphic {Obj Mor : Type 0} (C : CategoryData Obj Mor) : Type 0 where
  pub law : {k l a b : Obj} {f i j : Mor} → Arrow C a b f → IsKernel C k a b f i → IsKernel C l a b f j → IsoOver C k l a i j

-- what factors through rho is closed under sums, multiples, and composites on both sides; 0 factors
pub record FactoringIdeal {Obj Mor : Type 0} (C : CategoryData Obj Mor) : Type 0 where
  pub zero : {x r b : Obj} {rho : Mor} → C.is_object x → Arrow C r b rho → Through C x r b rho (C.zero x b)
  pub add : {x r b : Obj} {rho f g : Mor} → Through C x r b rho f → Through C x r b rho g → Through C x r b rho (C.add f g)
  pub scale : {x r b : Obj} {rho f : Mor} (n : ℕ) → Through C x r b rho f → Through C x r b rho (C.scale n f)
  pub before : {y x r b : Obj} {rho u f : Mor} → Arrow C y x u → Through C x r b rho f → Through C y r b rho (C.compose u f)
  pub after : {x r b r' c : Obj} {rho rho' f g : Mor} → Through C x r b rho f → Arrow C b c g → Through C r r' c rho' (C.compose rho g) → Through C x r' c rho' (C.compose f g)

-- a weak kernel of f above g, cut after f's source, is a weak preimage of g along f
pub record WeakPreimage {Obj Mor : Type 0} (C : CategoryData Obj Mor) : Type 0 where
  pub law : {k s a b c : Obj} {i1 i2 p1 p2 f g w : Mor} → IsDirectSum C s a b i1 i2 p1 p2 → Arrow C a c f → Arrow C b c g → IsWeakKernel C k s c (rows C p1 p2 f g) w → IsPreimage C k a b c f g (C.compose w p1)

-- where every morphism splits over a middle object, the category is half abelian on both sides
pub record SplitsGiveHalves {Obj Mor : Type 0} (C : CategoryData Obj Mor) : Type 0 where
  pub kernels : HasSplits C → HasHalfAbelian C
  pub cokernels : HasSplits C → HasHalfAbelian (opposite C)

-- X·r = v has a solution exactly where v factors through r; an answer of X·f = t is one of a lift, and of f·X = t one of a colift
pub record FactoringBySystem {Obj Mor : Type 0} (C : CategoryData Obj Mor) : Type 0 where
  pub system : {p q x y : Obj} {l r v : Mor} → Arrow C p x l → Arrow C y q r → Arrow C p q v → IsSystem C (term_system x y l r v)
  pub law : {x y q : Obj} {r v : Mor} → Arrow C y q r → Arrow C x q v → Through C x y q r v ↔ ((xs : List Mor) × IsSolution C (one_system C x y r v) xs)
  pub lift : {x a b : Obj} {t f : Mor} → Arrow C x b t → Arrow C a b f → (answer : Option (List Mor)) → AnswersSystem C (one_system C x a f t) answer → IsLift C x a b t f (first_of t answer)
  pub colift : {c a x : Obj} {f t : Mor} → Arrow C c a f → Arrow C c x t → (answer : Option (List Mor)) → AnswersSystem C (term_system a x f (C.identity x) t) answer → IsColift C c a x f t (first_of t answer)
