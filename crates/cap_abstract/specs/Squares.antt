-- Laws of kernels, equalizers and pullbacks. A law on cokernels, coequalizers or pushouts is the law here in the opposite category.
use Rattle.cap_laws.specs.Linear.{CategoryData, Arrow, Same}
use Rattle.cap_laws.specs.Universal.{subtract, Unique, IsWeakKernel, IsKernel, IsEqualizer, IsProduct, IsPullback, IsDirectSum, IsZeroObject, IsIntersection}

-- an equalizer of f and 0 is a kernel of f
pub record KernelFromEqualizer {Obj Mor : Type 0} (C : CategoryData Obj Mor) : Type 0 where
  pub law : {k a b : Obj} {f i : Mor} → Arrow C a b f → IsEqualizer C k a b f (C.zero a b) i → IsKernel C k a b f i

-- a kernel of f − g is an equalizer of f and g
pub record EqualizerFromKernel {Obj Mor : Type 0} (C : CategoryData Obj Mor) : Type 0 where
  pub law : {k a b : Obj} {f g e : Mor} → Arrow C a b f → Arrow C a b g → IsKernel C k a b (subtract C f g) e → IsEqualizer C k a b f g e

-- a kernel is a weak kernel
pub record WeakKernelFromKernel {Obj Mor : Type 0} (C : CategoryData Obj Mor) : Type 0 where
  pub law : {k a b : Obj} {f i : Mor} → IsKernel C k a b f i → IsWeakKernel C k a b f i

-- the first part of a pullback of f and 0, out of a zero object, is a kernel of f
pub record KernelFromPullback {Obj Mor : Type 0} (C : CategoryData Obj Mor) : Type 0 where
  pub law : {k z a b : Obj} {f p q : Mor} → IsZeroObject C z → Arrow C a b f → IsPullback C k a z b f (C.zero z b) p q → IsKernel C k a b f p

-- a kernel of p1·f − p2·g, for a direct sum of the sources, gives a pullback of f and g
pub record PullbackFromKernel {Obj Mor : Type 0} (C : CategoryData Obj Mor) : Type 0 where
  pub law : {k s a b c : Obj} {i1 i2 p1 p2 f g i : Mor} → Arrow C a c f → Arrow C b c g → IsDirectSum C s a b i1 i2 p1 p2 → IsKernel C k s c (subtract C (C.compose p1 f) (C.compose p2 g)) i → IsPullback C k a b c f g (C.compose i p1) (C.compose i p2)

-- an equalizer of p1·f and p2·g, for a product of the sources, gives a pullback of f and g
pub record PullbackFromEqualizer {Obj Mor : Type 0} (C : CategoryData Obj Mor) : Type 0 where
  pub law : {k s a b c : Obj} {p1 p2 f g e : Mor} → Arrow C a c f → Arrow C b c g → IsProduct C s a b p1 p2 → IsEqualizer C k s c (C.compose p1 f) (C.compose p2 g) e → IsPullback C k a b c f g (C.compose e p1) (C.compose e p2)

-- the first part of a pullback of the graphs i1 + f·i2 and i1 + g·i2 is an equalizer of f and g
pub record EqualizerFromPullback {Obj Mor : Type 0} (C : CategoryData Obj Mor) : Type 0 where
  pub law : {k s a b : Obj} {i1 i2 p1 p2 f g p q : Mor} → Arrow C a b f → Arrow C a b g → IsDirectSum C s a b i1 i2 p1 p2 → IsPullback C k a a s (C.add i1 (C.compose f i2)) (C.add i1 (C.compose g i2)) p q → IsEqualizer C k a b f g p

-- a square from f to g gives one morphism between their kernels
pub record KernelMap {Obj Mor : Type 0} (C : CategoryData Obj Mor) : Type 0 where
  pub law : {k l a b c d : Obj} {f g h h' i j : Mor} → Arrow C a c f → Arrow C b d g → Arrow C a b h → Arrow C c d h' → Same C a d (C.compose f h') (C.compose h g) → IsKernel C k a c f i → IsKernel C l b d g j → Unique C k l (λ u. Same C k b (C.compose u j) (C.compose i h))

-- the composite of a pullback with its base is an intersection
pub record IntersectionFromPullback {Obj Mor : Type 0} (C : CategoryData Obj Mor) : Type 0 where
  pub law : {k a b c : Obj} {m n p q d : Mor} → IsPullback C k a b c m n p q → Same C k c d (C.compose p m) → IsIntersection C k a b c m n d
