-- The sorts and ends of the 44 operations: between which objects their arguments and their answers lie.
use Rattle.std.specs.Prelude.{◌≡◌, ℕ, zero, suc, ◌+◌, ◌≤◌, List, [], ◌∷◌, ◌++◌, Option, Some, None, map, unwrap_or, slice_get, Contains}
use Rattle.std.specs.List.{flat_map}
use Rattle.cap_ops.specs.Once.{once}
use Rattle.cap_ops.specs.declared.ends.Ends.{Ends}
use Rattle.cap_ops.specs.declared.ends.Shape.{Shape}
use Rattle.cap_ops.specs.declared.ends.Shape.TheVariants.{Object, Morphism, Two, Four, Truth, Scalar}
use Rattle.cap_ops.specs.declared.sorts.Sort.{Sort}
use Rattle.cap_ops.specs.declared.sorts.Sort.TheVariants.{Obj, Mor, Num, Truth as TruthSort, Tuple}

-- the ends of a morphism from a to b
infix 60 ◌⟶◌
abbrev pub ◌⟶◌ : {X : Type 0} → X → X → Ends X
a ⟶ b = record { src = a; tgt = b }

-- what an operation takes, and what it answers where that is not `none`. Objects are letters, numbered from 0 in the order of first mention; a letter that no argument has is a new object
pub record Profile : Type 0 where
  pub arguments : List (Shape ℕ)
  pub answer : Shape ℕ

abbrev pub takes : List (Shape ℕ) → Shape ℕ → Profile
takes arguments answer = record { arguments = arguments; answer = answer }

-- the first letters, under the names that a line of the table gives them
abbrev pub letters_1 : (ℕ → Profile) → Profile
letters_1 f = f 0

abbrev pub letters_2 : (ℕ → ℕ → Profile) → Profile
letters_2 f = f 0 1

abbrev pub letters_3 : (ℕ → ℕ → ℕ → Profile) → Profile
letters_3 f = f 0 1 2

abbrev pub letters_4 : (ℕ → ℕ → ℕ → ℕ → Profile) → Profile
letters_4 f = f 0 1 2 3

abbrev pub letters_5 : (ℕ → ℕ → ℕ → ℕ → ℕ → Profile) → Profile
letters_5 f = f 0 1 2 3 4

-- the table, in order of number
abbrev pub profiles : List Profile
profiles =
    -- 1 Identity(a): 1: a→a
    letters_1 (λ a. takes (Object a ∷ []) (Morphism (a ⟶ a)))
    -- 2 Compose(f: a→b, g: b→c): a→c
    ∷ letters_3 (λ a b c. takes (Morphism (a ⟶ b) ∷ Morphism (b ⟶ c) ∷ []) (Morphism (a ⟶ c)))
    -- 3 Zero(a, b): 0: a→b
    ∷ letters_2 (λ a b. takes (Object a ∷ Object b ∷ []) (Morphism (a ⟶ b)))
    -- 4 Add(f: a→b, g: a→b): a→b
    ∷ letters_2 (λ a b. takes (Morphism (a ⟶ b) ∷ Morphism (a ⟶ b) ∷ []) (Morphism (a ⟶ b)))
    -- 5 Negate(f: a→b): a→b
    ∷ letters_2 (λ a b. takes (Morphism (a ⟶ b) ∷ []) (Morphism (a ⟶ b)))
    -- 6 Subtract(f: a→b, g: a→b): a→b
    ∷ letters_2 (λ a b. takes (Morphism (a ⟶ b) ∷ Morphism (a ⟶ b) ∷ []) (Morphism (a ⟶ b)))
    -- 7 Scale(n, f: a→b): a→b
    ∷ letters_2 (λ a b. takes (Scalar ∷ Morphism (a ⟶ b) ∷ []) (Morphism (a ⟶ b)))
    -- 8 IsCongruent(f: a→b, g: a→b): truth
    ∷ letters_2 (λ a b. takes (Morphism (a ⟶ b) ∷ Morphism (a ⟶ b) ∷ []) Truth)
    -- 9 IsZero(f: a→b): truth
    ∷ letters_2 (λ a b. takes (Morphism (a ⟶ b) ∷ []) Truth)
    -- 10 ZeroObject(): 1: z→z
    ∷ letters_1 (λ z. takes [] (Morphism (z ⟶ z)))
    -- 11 DirectSum(a, b): (i1: a→s, i2: b→s, p1: s→a, p2: s→b)
    ∷ letters_3 (λ a b s. takes (Object a ∷ Object b ∷ []) (Four (a ⟶ s) (b ⟶ s) (s ⟶ a) (s ⟶ b)))
    -- 12 Product(a, b): (p1: s→a, p2: s→b)
    ∷ letters_3 (λ a b s. takes (Object a ∷ Object b ∷ []) (Two (s ⟶ a) (s ⟶ b)))
    -- 13 Coproduct(a, b): (i1: a→s, i2: b→s)
    ∷ letters_3 (λ a b s. takes (Object a ∷ Object b ∷ []) (Two (a ⟶ s) (b ⟶ s)))
    -- 14 Pair(p: s→a, q: s→b, u: t→a, v: t→b): w: t→s
    ∷ letters_4 (λ s a b t. takes (Morphism (s ⟶ a) ∷ Morphism (s ⟶ b) ∷ Morphism (t ⟶ a) ∷ Morphism (t ⟶ b) ∷ []) (Morphism (t ⟶ s)))
    -- 15 Copair(i: a→s, j: b→s, u: a→t, v: b→t): w: s→t
    ∷ letters_4 (λ a s b t. takes (Morphism (a ⟶ s) ∷ Morphism (b ⟶ s) ∷ Morphism (a ⟶ t) ∷ Morphism (b ⟶ t) ∷ []) (Morphism (s ⟶ t)))
    -- 16 Kernel(f: a→b): i: k→a
    ∷ letters_3 (λ a b k. takes (Morphism (a ⟶ b) ∷ []) (Morphism (k ⟶ a)))
    -- 17 KernelLift(i: k→a, t: x→a): u: x→k
    ∷ letters_3 (λ k a x. takes (Morphism (k ⟶ a) ∷ Morphism (x ⟶ a) ∷ []) (Morphism (x ⟶ k)))
    -- 18 Cokernel(f: a→b): p: b→c
    ∷ letters_3 (λ a b c. takes (Morphism (a ⟶ b) ∷ []) (Morphism (b ⟶ c)))
    -- 19 CokernelColift(p: b→c, t: b→x): u: c→x
    ∷ letters_3 (λ b c x. takes (Morphism (b ⟶ c) ∷ Morphism (b ⟶ x) ∷ []) (Morphism (c ⟶ x)))
    -- 20 WeakKernel(f: a→b): i: k→a
    ∷ letters_3 (λ a b k. takes (Morphism (a ⟶ b) ∷ []) (Morphism (k ⟶ a)))
    -- 21 WeakCokernel(f: a→b): p: b→c
    ∷ letters_3 (λ a b c. takes (Morphism (a ⟶ b) ∷ []) (Morphism (b ⟶ c)))
    -- 22 Lift(t: x→b, f: a→b): u: x→a
    ∷ letters_3 (λ x b a. takes (Morphism (x ⟶ b) ∷ Morphism (a ⟶ b) ∷ []) (Morphism (x ⟶ a)))
    -- 23 Colift(f: c→a, t: c→x): u: a→x
    ∷ letters_3 (λ c a x. takes (Morphism (c ⟶ a) ∷ Morphism (c ⟶ x) ∷ []) (Morphism (a ⟶ x)))
    -- 24 IsMono(f: a→b): truth
    ∷ letters_2 (λ a b. takes (Morphism (a ⟶ b) ∷ []) Truth)
    -- 25 IsEpi(f: a→b): truth
    ∷ letters_2 (λ a b. takes (Morphism (a ⟶ b) ∷ []) Truth)
    -- 26 IsIso(f: a→b): truth
    ∷ letters_2 (λ a b. takes (Morphism (a ⟶ b) ∷ []) Truth)
    -- 27 IsSplitMono(f: a→b): truth
    ∷ letters_2 (λ a b. takes (Morphism (a ⟶ b) ∷ []) Truth)
    -- 28 IsSplitEpi(f: a→b): truth
    ∷ letters_2 (λ a b. takes (Morphism (a ⟶ b) ∷ []) Truth)
    -- 29 Inverse(f: a→b): g: b→a
    ∷ letters_2 (λ a b. takes (Morphism (a ⟶ b) ∷ []) (Morphism (b ⟶ a)))
    -- 30 Section(f: a→b): s: b→a
    ∷ letters_2 (λ a b. takes (Morphism (a ⟶ b) ∷ []) (Morphism (b ⟶ a)))
    -- 31 Retraction(f: a→b): r: b→a
    ∷ letters_2 (λ a b. takes (Morphism (a ⟶ b) ∷ []) (Morphism (b ⟶ a)))
    -- 32 Equalizer(f: a→b, g: a→b): e: k→a
    ∷ letters_3 (λ a b k. takes (Morphism (a ⟶ b) ∷ Morphism (a ⟶ b) ∷ []) (Morphism (k ⟶ a)))
    -- 33 Coequalizer(f: a→b, g: a→b): q: b→c
    ∷ letters_3 (λ a b c. takes (Morphism (a ⟶ b) ∷ Morphism (a ⟶ b) ∷ []) (Morphism (b ⟶ c)))
    -- 34 Pullback(f: a→c, g: b→c): (p: k→a, q: k→b)
    ∷ letters_4 (λ a c b k. takes (Morphism (a ⟶ c) ∷ Morphism (b ⟶ c) ∷ []) (Two (k ⟶ a) (k ⟶ b)))
    -- 35 Pushout(f: c→a, g: c→b): (i: a→k, j: b→k)
    ∷ letters_4 (λ c a b k. takes (Morphism (c ⟶ a) ∷ Morphism (c ⟶ b) ∷ []) (Two (a ⟶ k) (b ⟶ k)))
    -- 36 Image(f: a→b): (e: a→i, m: i→b)
    ∷ letters_3 (λ a b i. takes (Morphism (a ⟶ b) ∷ []) (Two (a ⟶ i) (i ⟶ b)))
    -- 37 Coimage(f: a→b): (e: a→i, m: i→b)
    ∷ letters_3 (λ a b i. takes (Morphism (a ⟶ b) ∷ []) (Two (a ⟶ i) (i ⟶ b)))
    -- 38 KernelMap(i: k→a, h: a→b, j: l→b): u: k→l
    ∷ letters_4 (λ k a b l. takes (Morphism (k ⟶ a) ∷ Morphism (a ⟶ b) ∷ Morphism (l ⟶ b) ∷ []) (Morphism (k ⟶ l)))
    -- 39 CokernelMap(p: a→c, h: a→b, q: b→d): u: c→d
    ∷ letters_4 (λ a c b d. takes (Morphism (a ⟶ c) ∷ Morphism (a ⟶ b) ∷ Morphism (b ⟶ d) ∷ []) (Morphism (c ⟶ d)))
    -- 40 Intersection(m: a→c, n: b→c): d: k→c
    ∷ letters_4 (λ a c b k. takes (Morphism (a ⟶ c) ∷ Morphism (b ⟶ c) ∷ []) (Morphism (k ⟶ c)))
    -- 41 Union(m: a→c, n: b→c): j: u→c
    ∷ letters_4 (λ a c b u. takes (Morphism (a ⟶ c) ∷ Morphism (b ⟶ c) ∷ []) (Morphism (u ⟶ c)))
    -- 42 IsSubobject(m: a→c, n: b→c): truth
    ∷ letters_3 (λ a c b. takes (Morphism (a ⟶ c) ∷ Morphism (b ⟶ c) ∷ []) Truth)
    -- 43 Homology(f: a→b, g: b→c): (i: k→b, p: k→h)
    ∷ letters_5 (λ a b c k h. takes (Morphism (a ⟶ b) ∷ Morphism (b ⟶ c) ∷ []) (Two (k ⟶ b) (k ⟶ h)))
    -- 44 IsExact(f: a→b, g: b→c): truth
    ∷ letters_3 (λ a b c. takes (Morphism (a ⟶ b) ∷ Morphism (b ⟶ c) ∷ []) Truth)
    ∷ []

-- the numbers that name operations
abbrev pub IsOperation : ℕ → Type 0
IsOperation op = (1 ≤ op) × (op ≤ 44)

abbrev pub profile_at : ℕ → Option Profile
profile_at zero = None
profile_at (suc n) = slice_get profiles n

-- the line of an operation, by its number
abbrev pub profile_of : ℕ → Profile
profile_of op = unwrap_or (profile_at op) (takes [] Truth)

-- the objects that a value's sort and ends name, a source before its target; those of several values, in order
abbrev pub ends_in : {X : Type 0} → Shape X → List X
ends_in (Object a) = a ∷ []
ends_in (Morphism e) = e.src ∷ e.tgt ∷ []
ends_in (Two d e) = d.src ∷ d.tgt ∷ e.src ∷ e.tgt ∷ []
ends_in (Four c d e f) = c.src ∷ c.tgt ∷ d.src ∷ d.tgt ∷ e.src ∷ e.tgt ∷ f.src ∷ f.tgt ∷ []
ends_in Truth = []
ends_in Scalar = []

abbrev pub places : {X : Type 0} → List (Shape X) → List X
places [] = []
places (s ∷ ss) = ends_in s ++ places ss

-- the letter stands for an object that only the answer has
abbrev pub IsNew : Profile → ℕ → Type 0
IsNew p letter = Contains (places p.arguments) letter → ⊥

-- the letters that only the answer has, each once, in order of first mention
abbrev pub new_letters : Profile → List ℕ
new_letters p = once (λ letter. letter) (places p.arguments) (ends_in p.answer)

-- the sort and ends with other names for the objects
abbrev pub renamed_ends : {X Y : Type 0} → (X → Y) → Ends X → Ends Y
renamed_ends names e = names e.src ⟶ names e.tgt

abbrev pub renamed : {X Y : Type 0} → (X → Y) → Shape X → Shape Y
renamed names (Object a) = Object (names a)
renamed names (Morphism e) = Morphism (renamed_ends names e)
renamed names (Two d e) = Two (renamed_ends names d) (renamed_ends names e)
renamed names (Four c d e f) = Four (renamed_ends names c) (renamed_ends names d) (renamed_ends names e) (renamed_ends names f)
renamed names Truth = Truth
renamed names Scalar = Scalar

-- the sort alone
abbrev pub sort_of : {X : Type 0} → Shape X → Sort
sort_of (Object a) = Obj
sort_of (Morphism e) = Mor
sort_of (Two d e) = Tuple 2
sort_of (Four c d e f) = Tuple 4
sort_of Truth = TruthSort
sort_of Scalar = Num

-- the sorts of an operation's arguments and of its answer
abbrev pub operation_arguments : ℕ → List Sort
operation_arguments op = map sort_of (profile_of op).arguments

abbrev pub operation_answer : ℕ → Sort
operation_answer op = sort_of (profile_of op).answer

-- a list of at most four in four places, None after the last
abbrev pub padded : {X : Type 0} → List X → List (Option X)
padded xs = slice_get xs 0 ∷ slice_get xs 1 ∷ slice_get xs 2 ∷ slice_get xs 3 ∷ []
