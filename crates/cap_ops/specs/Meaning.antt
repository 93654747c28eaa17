-- What the answer of each operation means in a category.
use Rattle.std.specs.Prelude.{◌≡◌, ℕ, zero, suc, ◌-◌, true, false, List, [], ◌∷◌}
use Rattle.cap_laws.specs.Linear.{CategoryData, Arrow, Same}
use Rattle.cap_laws.specs.Universal.{opposite, negate, subtract, Some-arrow, IsMono, IsEpi, IsSection, IsRetraction, IsSplitEpi, IsSplitMono, IsInverse, IsIso, IsWeakKernel, IsWeakCokernel, IsKernel, IsCokernel, IsEqualizer, IsCoequalizer, Both, IsProduct, IsCoproduct, IsPullback, IsPushout, IsDirectSum, IsZeroObject, IsImage, IsCoimage, IsIntersection, IsUnion, IsHomology, IsExact}
use Rattle.cap_ops.specs.Values.{Value, object, morphism, two, four, truth, scalar, none, Setting}

-- what is claimed of an answer, by its sort
pub data Claim (Mor : Type 0) : Type 1 where
  -- a morphism of which this holds
  a_morphism : (Mor → Type 0) → Claim Mor
  two_morphisms : (Mor → Mor → Type 0) → Claim Mor
  four_morphisms : (Mor → Mor → Mor → Mor → Type 0) → Claim Mor
  -- true exactly where this holds
  a_truth : Type 0 → Claim Mor
  -- a morphism of which this holds, or `none` where it holds of no morphism
  or_none : (Mor → Type 0) → Claim Mor
  -- two morphisms of which this holds, or `none` where the second fact fails
  two_where : (Mor → Mor → Type 0) → Type 0 → Claim Mor

abbrev pub Meets : {Obj Mor : Type 0} → Claim Mor → Value Obj Mor → Type 0
Meets (a_morphism P) (morphism m) = P m
Meets (two_morphisms P) (two p q) = P p q
Meets (four_morphisms P) (four p q r s) = P p q r s
Meets (a_truth P) (truth true) = P
Meets (a_truth P) (truth false) = P → ⊥
Meets (or_none P) (morphism m) = P m
Meets {Mor = Mor} (or_none P) none = (m : Mor) → P m → ⊥
Meets (two_where P Q) (two p q) = P p q
Meets (two_where P Q) none = Q → ⊥
Meets _ _ = ⊥

-- a line of the table: the arguments that an operation takes, then what is claimed of its answer at the ends of the arguments
pub data Line (Obj Mor : Type 0) : Type 1 where
  takes_object : (Obj → Line Obj Mor) → Line Obj Mor
  takes_morphism : (Mor → Line Obj Mor) → Line Obj Mor
  takes_scalar : (ℕ → Line Obj Mor) → Line Obj Mor
  answers : (E : Type 0) → (E → Claim Mor) → Line Obj Mor

-- the answer meets the claim, whatever objects the ends of the arguments are; nothing is said of arguments that do not fit
abbrev pub MeansBy : {Obj Mor : Type 0} → Line Obj Mor → List (Value Obj Mor) → Value Obj Mor → Type 0
MeansBy (takes_object l) (object a ∷ args) v = MeansBy (l a) args v
MeansBy (takes_morphism l) (morphism f ∷ args) v = MeansBy (l f) args v
MeansBy (takes_scalar l) (scalar n ∷ args) v = MeansBy (l n) args v
MeansBy (answers E claim) [] v = (e : E) → Meets (claim e) v
MeansBy _ _ v = Unit {0}

module _ {Obj Mor : Type 0} (C : CategoryData Obj Mor) where
  -- the ends of arguments: a and b are objects
  pub record TwoObjects (a b : Obj) : Type 0 where
    pub first : C.is_object a
    pub second : C.is_object b

  -- f: a→b
  pub record OneArrow (f : Mor) : Type 0 where
    pub a : Obj
    pub b : Obj
    pub arrow : Arrow C a b f

  -- f: a→b, g: a→b
  pub record Parallel (f g : Mor) : Type 0 where
    pub a : Obj
    pub b : Obj
    pub first : Arrow C a b f
    pub second : Arrow C a b g

  -- f: a→b, g: b→c
  pub record Chain (f g : Mor) : Type 0 where
    pub a : Obj
    pub b : Obj
    pub c : Obj
    pub first : Arrow C a b f
    pub second : Arrow C b c g

  -- f: a→c, g: b→c
  pub record Cospan (f g : Mor) : Type 0 where
    pub a : Obj
    pub b : Obj
    pub c : Obj
    pub first : Arrow C a c f
    pub second : Arrow C b c g

  -- f: c→a, g: c→b
  pub record Span (f g : Mor) : Type 0 where
    pub c : Obj
    pub a : Obj
    pub b : Obj
    pub first : Arrow C c a f
    pub second : Arrow C c b g

  -- p: s→a, q: s→b, u: t→a, v: t→b
  pub record Cones (p q u v : Mor) : Type 0 where
    pub s : Obj
    pub t : Obj
    pub a : Obj
    pub b : Obj
    pub first : Arrow C s a p
    pub second : Arrow C s b q
    pub left : Arrow C t a u
    pub right : Arrow C t b v

  -- i: a→s, j: b→s, u: a→t, v: b→t
  pub record Cocones (i j u v : Mor) : Type 0 where
    pub s : Obj
    pub t : Obj
    pub a : Obj
    pub b : Obj
    pub first : Arrow C a s i
    pub second : Arrow C b s j
    pub left : Arrow C a t u
    pub right : Arrow C b t v

  -- i: k→a, h: a→b, j: l→b
  pub record Above (i h j : Mor) : Type 0 where
    pub k : Obj
    pub a : Obj
    pub b : Obj
    pub l : Obj
    pub first : Arrow C k a i
    pub middle : Arrow C a b h
    pub last : Arrow C l b j

  -- p: a→c, h: a→b, q: b→d
  pub record Below (p h q : Mor) : Type 0 where
    pub a : Obj
    pub c : Obj
    pub b : Obj
    pub d : Obj
    pub first : Arrow C a c p
    pub middle : Arrow C a b h
    pub last : Arrow C b d q

  -- the arguments, and what is claimed at their ends
  abbrev pub on_nothing : Claim Mor → Line Obj Mor
  on_nothing claim = answers (Unit {0}) (λ e. claim)

  abbrev pub on_object : (Obj → Claim Mor) → Line Obj Mor
  on_object claim = takes_object (λ a. answers (C.is_object a) (λ e. claim a))

  abbrev pub on_objects : (Obj → Obj → Claim Mor) → Line Obj Mor
  on_objects claim = takes_object (λ a. takes_object (λ b. answers (TwoObjects a b) (λ e. claim a b)))

  abbrev pub on_arrow : (Mor → Obj → Obj → Claim Mor) → Line Obj Mor
  on_arrow claim = takes_morphism (λ f. answers (OneArrow f) (λ e. claim f e.a e.b))

  abbrev pub on_scaled : (ℕ → Mor → Obj → Obj → Claim Mor) → Line Obj Mor
  on_scaled claim = takes_scalar (λ n. takes_morphism (λ f. answers (OneArrow f) (λ e. claim n f e.a e.b)))

  abbrev pub on_parallel : (Mor → Mor → Obj → Obj → Claim Mor) → Line Obj Mor
  on_parallel claim = takes_morphism (λ f. takes_morphism (λ g. answers (Parallel f g) (λ e. claim f g e.a e.b)))

  abbrev pub on_chain : (Mor → Mor → Obj → Obj → Obj → Claim Mor) → Line Obj Mor
  on_chain claim = takes_morphism (λ f. takes_morphism (λ g. answers (Chain f g) (λ e. claim f g e.a e.b e.c)))

  abbrev pub on_cospan : (Mor → Mor → Obj → Obj → Obj → Claim Mor) → Line Obj Mor
  on_cospan claim = takes_morphism (λ f. takes_morphism (λ g. answers (Cospan f g) (λ e. claim f g e.a e.b e.c)))

  abbrev pub on_span : (Mor → Mor → Obj → Obj → Obj → Claim Mor) → Line Obj Mor
  on_span claim = takes_morphism (λ f. takes_morphism (λ g. answers (Span f g) (λ e. claim f g e.c e.a e.b)))

  abbrev pub on_cones : (Mor → Mor → Mor → Mor → Obj → Obj → Obj → Obj → Claim Mor) → Line Obj Mor
  on_cones claim = takes_morphism (λ p. takes_morphism (λ q. takes_morphism (λ u. takes_morphism (λ v. answers (Cones p q u v) (λ e. claim p q u v e.s e.t e.a e.b)))))

  abbrev pub on_cocones : (Mor → Mor → Mor → Mor → Obj → Obj → Obj → Obj → Claim Mor) → Line Obj Mor
  on_cocones claim = takes_morphism (λ i. takes_morphism (λ j. takes_morphism (λ u. takes_morphism (λ v. answers (Cocones i j u v) (λ e. claim i j u v e.s e.t e.a e.b)))))

  abbrev pub on_above : (Mor → Mor → Mor → Obj → Obj → Obj → Obj → Claim Mor) → Line Obj Mor
  on_above claim = takes_morphism (λ i. takes_morphism (λ h. takes_morphism (λ j. answers (Above i h j) (λ e. claim i h j e.k e.a e.b e.l))))

  abbrev pub on_below : (Mor → Mor → Mor → Obj → Obj → Obj → Obj → Claim Mor) → Line Obj Mor
  on_below claim = takes_morphism (λ p. takes_morphism (λ h. takes_morphism (λ q. answers (Below p h q) (λ e. claim p h q e.a e.c e.b e.d))))

  -- m is the identity of a zero object
  pub record IsZeroIdentity (m : Mor) : Type 0 where
    pub object : Obj
    pub is : IsZeroObject C object
    pub same : Same C object object m (C.identity object)

  -- u: x→a with u·f = t
  pub record LiftOf (x a b : Obj) (t f u : Mor) : Type 0 where
    pub arrow : Arrow C x a u
    pub is : Same C x b (C.compose u f) t

  -- u: a→x with f·u = t
  pub record ColiftOf (c a x : Obj) (f t u : Mor) : Type 0 where
    pub arrow : Arrow C a x u
    pub is : Same C c x (C.compose f u) t

  -- w: t→s with w·p = u and w·q = v
  pub record PairOf (s t a b : Obj) (p q u v w : Mor) : Type 0 where
    pub arrow : Arrow C t s w
    pub is : Both C t a b p q u v w

  -- w: s→t with i·w = u and j·w = v
  pub record CopairOf (s t a b : Obj) (i j u v w : Mor) : Type 0 where
    pub arrow : Arrow C s t w
    pub first : Same C a t (C.compose i w) u
    pub second : Same C b t (C.compose j w) v

  -- the table of the operations, in order of number
  abbrev pub lines : List (Line Obj Mor)
  lines =
      -- 1 Identity(a): 1: a→a
      on_object (λ a. a_morphism (λ m. Same C a a m (C.identity a)))
      -- 2 Compose(f: a→b, g: b→c): f·g
      ∷ on_chain (λ f g a b c. a_morphism (λ m. Same C a c m (C.compose f g)))
      -- 3 Zero(a, b): 0: a→b
      ∷ on_objects (λ a b. a_morphism (λ m. Same C a b m (C.zero a b)))
      -- 4 Add(f: a→b, g: a→b): f + g
      ∷ on_parallel (λ f g a b. a_morphism (λ m. Same C a b m (C.add f g)))
      -- 5 Negate(f: a→b): −f
      ∷ on_arrow (λ f a b. a_morphism (λ m. Same C a b m (negate C f)))
      -- 6 Subtract(f: a→b, g: a→b): f − g
      ∷ on_parallel (λ f g a b. a_morphism (λ m. Same C a b m (subtract C f g)))
      -- 7 Scale(n, f: a→b): n·f
      ∷ on_scaled (λ n f a b. a_morphism (λ m. Same C a b m (C.scale n f)))
      -- 8 IsCongruent(f: a→b, g: a→b): f and g are congruent
      ∷ on_parallel (λ f g a b. a_truth (Same C a b f g))
      -- 9 IsZero(f: a→b): f is congruent to 0
      ∷ on_arrow (λ f a b. a_truth (Same C a b f (C.zero a b)))
      -- 10 ZeroObject(): the identity of a zero object
      ∷ on_nothing (a_morphism (λ m. IsZeroIdentity m))
      -- 11 DirectSum(a, b): (i1: a→s, i2: b→s, p1: s→a, p2: s→b), a direct sum
      ∷ on_objects (λ a b. four_morphisms (λ i1 i2 p1 p2. (s : Obj) × IsDirectSum C s a b i1 i2 p1 p2))
      -- 12 Product(a, b): (p: s→a, q: s→b), a product
      ∷ on_objects (λ a b. two_morphisms (λ p q. (s : Obj) × IsProduct C s a b p q))
      -- 13 Coproduct(a, b): (i: a→s, j: b→s), a coproduct
      ∷ on_objects (λ a b. two_morphisms (λ i j. (s : Obj) × IsCoproduct C a b s i j))
      -- 14 Pair(p: s→a, q: s→b, u: t→a, v: t→b): w: t→s with w·p = u and w·q = v, or none
      ∷ on_cones (λ p q u v s t a b. or_none (λ w. PairOf s t a b p q u v w))
      -- 15 Copair(i: a→s, j: b→s, u: a→t, v: b→t): w: s→t with i·w = u and j·w = v, or none
      ∷ on_cocones (λ i j u v s t a b. or_none (λ w. CopairOf s t a b i j u v w))
      -- 16 Kernel(f: a→b): i: k→a, a kernel
      ∷ on_arrow (λ f a b. a_morphism (λ i. (k : Obj) × IsKernel C k a b f i))
      -- 17 KernelLift(i: k→a, t: x→a): u: x→k with u·i = t, or none
      ∷ on_cospan (λ i t k x a. or_none (λ u. LiftOf x k a t i u))
      -- 18 Cokernel(f: a→b): p: b→c, a cokernel
      ∷ on_arrow (λ f a b. a_morphism (λ p. (c : Obj) × IsCokernel C a b c f p))
      -- 19 CokernelColift(p: b→c, t: b→x): u: c→x with p·u = t, or none
      ∷ on_span (λ p t b c x. or_none (λ u. ColiftOf b c x p t u))
      -- 20 WeakKernel(f: a→b): i: k→a, a weak kernel
      ∷ on_arrow (λ f a b. a_morphism (λ i. (k : Obj) × IsWeakKernel C k a b f i))
      -- 21 WeakCokernel(f: a→b): p: b→c, a weak cokernel
      ∷ on_arrow (λ f a b. a_morphism (λ p. (c : Obj) × IsWeakCokernel C a b c f p))
      -- 22 Lift(t: x→b, f: a→b): u: x→a with u·f = t, or none
      ∷ on_cospan (λ t f x a b. or_none (λ u. LiftOf x a b t f u))
      -- 23 Colift(f: c→a, t: c→x): u: a→x with f·u = t, or none
      ∷ on_span (λ f t c a x. or_none (λ u. ColiftOf c a x f t u))
      -- 24 IsMono(f: a→b): u·f = 0 gives u = 0
      ∷ on_arrow (λ f a b. a_truth (IsMono C a b f))
      -- 25 IsEpi(f: a→b): f·u = 0 gives u = 0
      ∷ on_arrow (λ f a b. a_truth (IsEpi C a b f))
      -- 26 IsIso(f: a→b): f has an inverse
      ∷ on_arrow (λ f a b. a_truth (IsIso C a b f))
      -- 27 IsSplitMono(f: a→b): some r has f·r = 1
      ∷ on_arrow (λ f a b. a_truth (IsSplitMono C a b f))
      -- 28 IsSplitEpi(f: a→b): some s has s·f = 1
      ∷ on_arrow (λ f a b. a_truth (IsSplitEpi C a b f))
      -- 29 Inverse(f: a→b): g: b→a with f·g = 1 and g·f = 1, or none
      ∷ on_arrow (λ f a b. or_none (λ g. IsInverse C a b f g))
      -- 30 Section(f: a→b): s: b→a with s·f = 1, or none
      ∷ on_arrow (λ f a b. or_none (λ s. IsSection C a b f s))
      -- 31 Retraction(f: a→b): r: b→a with f·r = 1, or none
      ∷ on_arrow (λ f a b. or_none (λ r. IsRetraction C a b f r))
      -- 32 Equalizer(f: a→b, g: a→b): e: k→a, an equalizer
      ∷ on_parallel (λ f g a b. a_morphism (λ e. (k : Obj) × IsEqualizer C k a b f g e))
      -- 33 Coequalizer(f: a→b, g: a→b): q: b→c, a coequalizer
      ∷ on_parallel (λ f g a b. a_morphism (λ q. (c : Obj) × IsCoequalizer C a b c f g q))
      -- 34 Pullback(f: a→c, g: b→c): (p: k→a, q: k→b), a pullback
      ∷ on_cospan (λ f g a b c. two_morphisms (λ p q. (k : Obj) × IsPullback C k a b c f g p q))
      -- 35 Pushout(f: c→a, g: c→b): (i: a→k, j: b→k), a pushout
      ∷ on_span (λ f g c a b. two_morphisms (λ i j. (k : Obj) × IsPushout C c a b k f g i j))
      -- 36 Image(f: a→b): (e: a→k, m: k→b), an image: e·m = f, m is mono, and m factors through each mono m' with f = e'·m'
      ∷ on_arrow (λ f a b. two_morphisms (λ e m. (k : Obj) × IsImage C a k b f e m))
      -- 37 Coimage(f: a→b): (e: a→k, m: k→b), a coimage: e·m = f, e is epi, and for each epi e' with f = e'·m' some u has e'·u = e
      ∷ on_arrow (λ f a b. two_morphisms (λ e m. (k : Obj) × IsCoimage C a k b f e m))
      -- 38 KernelMap(i: k→a, h: a→b, j: l→b): u: k→l with u·j = i·h, or none
      ∷ on_above (λ i h j k a b l. or_none (λ u. LiftOf k l b (C.compose i h) j u))
      -- 39 CokernelMap(p: a→c, h: a→b, q: b→d): u: c→d with p·u = h·q, or none
      ∷ on_below (λ p h q a c b d. or_none (λ u. ColiftOf a c d p (C.compose h q) u))
      -- 40 Intersection(m: a→c, n: b→c): d: k→c, which is p·m for some pullback (p, q) of m and n
      ∷ on_cospan (λ m n a b c. a_morphism (λ d. (k : Obj) × IsIntersection C k a b c m n d))
      -- 41 Union(m: a→c, n: b→c): j: u→c, a union: mono, m and n factor through it, and it factors through each mono through which they do
      ∷ on_cospan (λ m n a b c. a_morphism (λ j. (u : Obj) × IsUnion C u a b c m n j))
      -- 42 IsSubobject(m: a→c, n: b→c): some u has u·n = m
      ∷ on_cospan (λ m n a b c. a_truth (Some-arrow C a b (λ u. Same C a c (C.compose u n) m)))
      -- 43 Homology(f: a→b, g: b→c): (i: k→b, p: k→h), the homology, or none exactly where f·g is not 0
      ∷ on_chain (λ f g a b c. two_where (λ i p. (k : Obj) × (h : Obj) × IsHomology C k h a b c f g i p) (Same C a c (C.compose f g) (C.zero a c)))
      -- 44 IsExact(f: a→b, g: b→c): f·g = 0, and t·s = 0 for all t with t·g = 0 and s with f·s = 0
      ∷ on_chain (λ f g a b c. a_truth (IsExact C a b c f g))
      ∷ []

-- the line of a number, the first being number 1; no line is at any other number
abbrev pub line_at : {Obj Mor : Type 0} → List (Line Obj Mor) → ℕ → Line Obj Mor
line_at [] n = answers ⊥ (λ e. a_truth ⊥)
line_at (l ∷ ls) zero = answers ⊥ (λ e. a_truth ⊥)
line_at (l ∷ ls) (suc zero) = l
line_at (l ∷ ls) (suc (suc n)) = line_at ls (suc n)

-- v is an answer of the operation on these arguments that has its meaning
abbrev pub Meaning : {Obj Mor : Type 0} → CategoryData Obj Mor → ℕ → List (Value Obj Mor) → Value Obj Mor → Type 0
Meaning C op args v = MeansBy (line_at (lines C) op) args v

-- what rules read of the category
abbrev pub setting_of : {Obj Mor : Type 0} → CategoryData Obj Mor → Setting Obj Mor
setting_of C = record { source = C.source; target = C.target; minus_one = C.prime - 1 }
