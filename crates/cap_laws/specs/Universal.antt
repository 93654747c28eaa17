-- Universal properties in a linear category. Each ranges over all objects and all morphisms of it; "unique" means that any two are congruent.
-- Objects come first, then the given morphisms, then those of the answer. A dual notion is the notion in the opposite category.
use Rattle.std.specs.Prelude.{◌-◌, Option, Some, None}
use Rattle.cap_laws.specs.Linear.{CategoryData, Arrow, Same}
use Rattle.cap_laws.specs.Factor.{Through}

-- the same data with all arrows turned round
abbrev pub opposite : {Obj Mor : Type 0} → CategoryData Obj Mor → CategoryData Obj Mor
opposite C = record {
  prime = C.prime;
  is_object = C.is_object;
  is_morphism = C.is_morphism;
  source = C.target;
  target = C.source;
  identity = C.identity;
  compose = λ f g. C.compose g f;
  congruent = C.congruent;
  zero = λ a b. C.zero b a;
  add = C.add;
  scale = C.scale;
}

-- −f
abbrev pub negate : {Obj Mor : Type 0} → CategoryData Obj Mor → Mor → Mor
negate C f = C.scale (C.prime - 1) f

-- f − g
abbrev pub subtract : {Obj Mor : Type 0} → CategoryData Obj Mor → Mor → Mor → Mor
subtract C f g = C.add f (C.scale (C.prime - 1) g)

-- some morphism from x to k has the property
pub record Some-arrow {Obj Mor : Type 0} (C : CategoryData Obj Mor) (x k : Obj) (P : Mor → Type 0) : Type 0 where
  pub by : Mor
  pub arrow : Arrow C x k by
  pub holds : P by

-- some morphism from x to k has the property, and any two that have it are congruent
pub record Unique {Obj Mor : Type 0} (C : CategoryData Obj Mor) (x k : Obj) (P : Mor → Type 0) : Type 0 where
  pub by : Mor
  pub arrow : Arrow C x k by
  pub holds : P by
  pub only : {v w : Mor} → Arrow C x k v → Arrow C x k w → P v → P w → Same C x k v w

-- "or none": a morphism from x to k that has the property, or none, exactly where no such morphism has it
abbrev pub OrNone : {Obj Mor : Type 0} → CategoryData Obj Mor → Obj → Obj → (Mor → Type 0) → Option Mor → Type 0
OrNone C x k P (Some u) = Arrow C x k u × P u
OrNone C x k P None = Some-arrow C x k P → ⊥

-- f: a→b is mono: u·f = 0 only where u = 0
pub record IsMono {Obj Mor : Type 0} (C : CategoryData Obj Mor) (a b : Obj) (f : Mor) : Type 0 where
  pub arrow : Arrow C a b f
  pub cancel : {x : Obj} {u : Mor} → Arrow C x a u → Same C x b (C.compose u f) (C.zero x b) → Same C x a u (C.zero x a)

-- f: a→b is epi: f·u = 0 only where u = 0
abbrev pub IsEpi : {Obj Mor : Type 0} → CategoryData Obj Mor → Obj → Obj → Mor → Type 0
IsEpi C a b f = IsMono (opposite C) b a f

-- s: b→a is a section of f: a→b: s·f = 1
pub record IsSection {Obj Mor : Type 0} (C : CategoryData Obj Mor) (a b : Obj) (f s : Mor) : Type 0 where
  pub arrow : Arrow C b a s
  pub is : Same C b b (C.compose s f) (C.identity b)

-- r: b→a is a retraction of f: a→b: f·r = 1
abbrev pub IsRetraction : {Obj Mor : Type 0} → CategoryData Obj Mor → Obj → Obj → Mor → Mor → Type 0
IsRetraction C a b f r = IsSection (opposite C) b a f r

-- f: a→b is a split epi: it has a section
pub record IsSplitEpi {Obj Mor : Type 0} (C : CategoryData Obj Mor) (a b : Obj) (f : Mor) : Type 0 where
  pub arrow : Arrow C a b f
  pub section : Mor
  pub is : IsSection C a b f section

-- f: a→b is a split mono: it has a retraction
abbrev pub IsSplitMono : {Obj Mor : Type 0} → CategoryData Obj Mor → Obj → Obj → Mor → Type 0
IsSplitMono C a b f = IsSplitEpi (opposite C) b a f

-- g: b→a is an inverse of f: a→b: f·g = 1 and g·f = 1
pub record IsInverse {Obj Mor : Type 0} (C : CategoryData Obj Mor) (a b : Obj) (f g : Mor) : Type 0 where
  pub arrow : Arrow C b a g
  pub left : Same C a a (C.compose f g) (C.identity a)
  pub right : Same C b b (C.compose g f) (C.identity b)

-- f: a→b is an isomorphism: it has an inverse
pub record IsIso {Obj Mor : Type 0} (C : CategoryData Obj Mor) (a b : Obj) (f : Mor) : Type 0 where
  pub arrow : Arrow C a b f
  pub inverse : Mor
  pub is : IsInverse C a b f inverse

-- i: k→a is a weak kernel of f: a→b: i·f = 0, and whatever f sends to 0 is u·i for some u
pub record IsWeakKernel {Obj Mor : Type 0} (C : CategoryData Obj Mor) (k a b : Obj) (f i : Mor) : Type 0 where
  pub arrow : Arrow C k a i
  pub zero : Same C k b (C.compose i f) (C.zero k b)
  pub lift : {x : Obj} {t : Mor} → Arrow C x a t → Same C x b (C.compose t f) (C.zero x b) → Some-arrow C x k (λ u. Same C x a (C.compose u i) t)

-- i: k→a is a kernel of f: a→b: i·f = 0, and whatever f sends to 0 is u·i for exactly one u
pub record IsKernel {Obj Mor : Type 0} (C : CategoryData Obj Mor) (k a b : Obj) (f i : Mor) : Type 0 where
  pub arrow : Arrow C k a i
  pub zero : Same C k b (C.compose i f) (C.zero k b)
  pub lift : {x : Obj} {t : Mor} → Arrow C x a t → Same C x b (C.compose t f) (C.zero x b) → Unique C x k (λ u. Same C x a (C.compose u i) t)

-- p: b→c is a weak cokernel of f: a→b: f·p = 0, and whatever is 0 after f is p·u for some u
abbrev pub IsWeakCokernel : {Obj Mor : Type 0} → CategoryData Obj Mor → Obj → Obj → Obj → Mor → Mor → Type 0
IsWeakCokernel C a b c f p = IsWeakKernel (opposite C) c b a f p

-- p: b→c is a cokernel of f: a→b: f·p = 0, and whatever is 0 after f is p·u for exactly one u
abbrev pub IsCokernel : {Obj Mor : Type 0} → CategoryData Obj Mor → Obj → Obj → Obj → Mor → Mor → Type 0
IsCokernel C a b c f p = IsKernel (opposite C) c b a f p

-- e: k→a is an equalizer of f, g: a→b: e·f = e·g, and whatever f and g agree on is u·e for exactly one u
pub record IsEqualizer {Obj Mor : Type 0} (C : CategoryData Obj Mor) (k a b : Obj) (f g e : Mor) : Type 0 where
  pub arrow : Arrow C k a e
  pub equal : Same C k b (C.compose e f) (C.compose e g)
  pub lift : {x : Obj} {t : Mor} → Arrow C x a t → Same C x b (C.compose t f) (C.compose t g) → Unique C x k (λ u. Same C x a (C.compose u e) t)

-- q: b→c is a coequalizer of f, g: a→b: f·q = g·q, and whatever agrees after f and g is q·u for exactly one u
abbrev pub IsCoequalizer : {Obj Mor : Type 0} → CategoryData Obj Mor → Obj → Obj → Obj → Mor → Mor → Mor → Type 0
IsCoequalizer C a b c f g q = IsEqualizer (opposite C) c b a f g q

-- w·p = u and w·q = v
pub record Both {Obj Mor : Type 0} (C : CategoryData Obj Mor) (x a b : Obj) (p q u v w : Mor) : Type 0 where
  pub first : Same C x a (C.compose w p) u
  pub second : Same C x b (C.compose w q) v

-- (p: s→a, q: s→b) is a product: any two morphisms x→a and x→b are w·p and w·q for exactly one w
pub record IsProduct {Obj Mor : Type 0} (C : CategoryData Obj Mor) (s a b : Obj) (p q : Mor) : Type 0 where
  pub first : Arrow C s a p
  pub second : Arrow C s b q
  pub pair : {x : Obj} {u v : Mor} → Arrow C x a u → Arrow C x b v → Unique C x s (λ w. Both C x a b p q u v w)

-- (i: a→s, j: b→s) is a coproduct: any two morphisms a→x and b→x are i·w and j·w for exactly one w
abbrev pub IsCoproduct : {Obj Mor : Type 0} → CategoryData Obj Mor → Obj → Obj → Obj → Mor → Mor → Type 0
IsCoproduct C a b s i j = IsProduct (opposite C) s a b i j

-- (p: k→a, q: k→b) is a pullback of f: a→c and g: b→c: p·f = q·g, and any u, v that meet so too are w·p and w·q for exactly one w
pub record IsPullback {Obj Mor : Type 0} (C : CategoryData Obj Mor) (k a b c : Obj) (f g p q : Mor) : Type 0 where
  pub first : Arrow C k a p
  pub second : Arrow C k b q
  pub square : Same C k c (C.compose p f) (C.compose q g)
  pub pair : {x : Obj} {u v : Mor} → Arrow C x a u → Arrow C x b v → Same C x c (C.compose u f) (C.compose v g) → Unique C x k (λ w. Both C x a b p q u v w)

-- (i: a→k, j: b→k) is a pushout of f: c→a and g: c→b: f·i = g·j, and any u, v that meet so too are i·w and j·w for exactly one w
abbrev pub IsPushout : {Obj Mor : Type 0} → CategoryData Obj Mor → Obj → Obj → Obj → Obj → Mor → Mor → Mor → Mor → Type 0
IsPushout C c a b k f g i j = IsPullback (opposite C) k a b c f g i j

-- i1: a→s, i2: b→s, p1: s→a, p2: s→b are a direct sum: i1·p1 = 1, i2·p2 = 1, i1·p2 = 0, i2·p1 = 0, p1·i1 + p2·i2 = 1
pub record IsDirectSum {Obj Mor : Type 0} (C : CategoryData Obj Mor) (s a b : Obj) (i1 i2 p1 p2 : Mor) : Type 0 where
  pub in1 : Arrow C a s i1
  pub in2 : Arrow C b s i2
  pub out1 : Arrow C s a p1
  pub out2 : Arrow C s b p2
  pub unit1 : Same C a a (C.compose i1 p1) (C.identity a)
  pub unit2 : Same C b b (C.compose i2 p2) (C.identity b)
  pub zero12 : Same C a b (C.compose i1 p2) (C.zero a b)
  pub zero21 : Same C b a (C.compose i2 p1) (C.zero b a)
  pub total : Same C s s (C.add (C.compose p1 i1) (C.compose p2 i2)) (C.identity s)

-- z is a zero object: its identity is 0
pub record IsZeroObject {Obj Mor : Type 0} (C : CategoryData Obj Mor) (z : Obj) : Type 0 where
  pub object : C.is_object z
  pub unit : Same C z z (C.identity z) (C.zero z z)

-- the answer of a lift of t: x→b along f: a→b: u: x→a with u·f = t, or none
abbrev pub IsLift : {Obj Mor : Type 0} → CategoryData Obj Mor → Obj → Obj → Obj → Mor → Mor → Option Mor → Type 0
IsLift C x a b t f answer = OrNone C x a (λ u. Same C x b (C.compose u f) t) answer

-- the answer of a colift of t: c→x along f: c→a: u: a→x with f·u = t, or none
abbrev pub IsColift : {Obj Mor : Type 0} → CategoryData Obj Mor → Obj → Obj → Obj → Mor → Mor → Option Mor → Type 0
IsColift C c a x f t answer = IsLift (opposite C) x a c t f answer

-- (e: a→k, m: k→b) is an image of f: a→b: f = e·m, where m is the least mono that f factors through: it factors through all others
pub record IsImage {Obj Mor : Type 0} (C : CategoryData Obj Mor) (a k b : Obj) (f e m : Mor) : Type 0 where
  pub first : Arrow C a k e
  pub mono : IsMono C k b m
  pub whole : Same C a b (C.compose e m) f
  pub least : {x : Obj} {e' m' : Mor} → Arrow C a x e' → IsMono C x b m' → Same C a b (C.compose e' m') f → Through C k x b m' m

-- (e: a→k, m: k→b) is a coimage of f: a→b: f = e·m, where e is an epi to which each other epi e' that f begins with goes on: e'·u = e for some u
abbrev pub IsCoimage : {Obj Mor : Type 0} → CategoryData Obj Mor → Obj → Obj → Obj → Mor → Mor → Mor → Type 0
IsCoimage C a k b f e m = IsImage (opposite C) b k a f m e

-- d: k→c is an intersection of m: a→c and n: b→c: the diagonal p·m of a pullback (p, q) of them
pub record IsIntersection {Obj Mor : Type 0} (C : CategoryData Obj Mor) (k a b c : Obj) (m n d : Mor) : Type 0 where
  pub p : Mor
  pub q : Mor
  pub pullback : IsPullback C k a b c m n p q
  pub is : Same C k c d (C.compose p m)

-- j: u→c is a union of m: a→c and n: b→c: the least mono that both factor through
pub record IsUnion {Obj Mor : Type 0} (C : CategoryData Obj Mor) (u a b c : Obj) (m n j : Mor) : Type 0 where
  pub mono : IsMono C u c j
  pub first : Through C a u c j m
  pub second : Through C b u c j n
  pub least : {x : Obj} {j' : Mor} → IsMono C x c j' → Through C a x c j' m → Through C b x c j' n → Through C u x c j' j

-- (i: k→b, p: k→h) is the homology of f: a→b and g: b→c: i is a kernel of g, f is some l·i, and p is a cokernel of that l
pub record IsHomology {Obj Mor : Type 0} (C : CategoryData Obj Mor) (k h a b c : Obj) (f g i p : Mor) : Type 0 where
  pub kernel : IsKernel C k b c g i
  pub l : Mor
  pub arrow : Arrow C a k l
  pub is : Same C a b (C.compose l i) f
  pub cokernel : IsCokernel C a k h l p

-- f: a→b and g: b→c are exact: f·g = 0, and a t that g sends to 0, followed by an s that is 0 after f, is 0
pub record IsExact {Obj Mor : Type 0} (C : CategoryData Obj Mor) (a b c : Obj) (f g : Mor) : Type 0 where
  pub first : Arrow C a b f
  pub second : Arrow C b c g
  pub zero : Same C a c (C.compose f g) (C.zero a c)
  pub middle : {x y : Obj} {t s : Mor} → Arrow C x b t → Arrow C b y s → Same C x c (C.compose t g) (C.zero x c) → Same C a y (C.compose f s) (C.zero a y) → Same C x y (C.compose t s) (C.zero x y)

-- i: k→a and j: l→a are isomorphic over a: some isomorphism u: k→l has u·j = i
pub record IsoOver {Obj Mor : Type 0} (C : CategoryData Obj Mor) (k l a : Obj) (i j : Mor) : Type 0 where
  pub by : Mor
  pub iso : IsIso C k l by
  pub over : Same C k a (C.compose by j) i

-- (p, q) out of k and (p', q') out of l are isomorphic: some isomorphism u: k→l has u·p' = p and u·q' = q
pub record IsoOverBoth {Obj Mor : Type 0} (C : CategoryData Obj Mor) (k l a b : Obj) (p q p' q' : Mor) : Type 0 where
  pub by : Mor
  pub iso : IsIso C k l by
  pub over : Both C k a b p' q' p q by

-- some morphism is a kernel of f: a→b
pub record HasKernel {Obj Mor : Type 0} (C : CategoryData Obj Mor) (a b : Obj) (f : Mor) : Type 0 where
  pub object : Obj
  pub by : Mor
  pub is : IsKernel C object a b f by

-- some four morphisms are a direct sum of a and b
pub record HasDirectSum {Obj Mor : Type 0} (C : CategoryData Obj Mor) (a b : Obj) : Type 0 where
  pub object : Obj
  pub i1 : Mor
  pub i2 : Mor
  pub p1 : Mor
  pub p2 : Mor
  pub is : IsDirectSum C object a b i1 i2 p1 p2

-- some object is a zero object
pub record HasZeroObject {Obj Mor : Type 0} (C : CategoryData Obj Mor) : Type 0 where
  pub object : Obj
  pub is : IsZeroObject C object

-- additive: some object is a zero object, and every two objects have a direct sum
pub record IsAdditive {Obj Mor : Type 0} (C : CategoryData Obj Mor) : Type 0 where
  pub zero_object : HasZeroObject C
  pub direct_sum : (a b : Obj) → C.is_object a → C.is_object b → HasDirectSum C a b

-- one half of abelian: each morphism has a kernel, and a mono is a kernel of whatever is its cokernel
pub record HasHalfAbelian {Obj Mor : Type 0} (C : CategoryData Obj Mor) : Type 0 where
  pub kernel : {a b : Obj} {f : Mor} → Arrow C a b f → HasKernel C a b f
  pub mono_is_kernel : {a b c : Obj} {f p : Mor} → IsMono C a b f → IsCokernel C a b c f p → IsKernel C a b c p f

-- abelian: additive, and half abelian on both sides; the other half is that each morphism has a cokernel, and an epi is a cokernel of whatever is its kernel
pub record IsAbelian {Obj Mor : Type 0} (C : CategoryData Obj Mor) : Type 0 where
  pub additive : IsAdditive C
  pub kernels : HasHalfAbelian C
  pub cokernels : HasHalfAbelian (opposite C)
