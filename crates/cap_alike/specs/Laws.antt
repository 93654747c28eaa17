-- What holds in a category holds of the partners in one that is alike, and conversely.
use Rattle.std.specs.Prelude.{◌↔◌, ℕ, List, Option, Some, None}
use Rattle.cap_laws.specs.Factor.{Through}
use Rattle.cap_laws.specs.Linear.{CategoryData, IsLinear}
use Rattle.cap_laws.specs.Universal.{IsMono, IsEpi, IsSection, IsRetraction, IsSplitEpi, IsSplitMono, IsInverse, IsIso, IsWeakKernel, IsWeakCokernel, IsKernel, IsCokernel, IsEqualizer, IsCoequalizer, IsProduct, IsCoproduct, IsPullback, IsPushout, IsDirectSum, IsZeroObject, IsLift, IsColift, IsImage, IsCoimage, IsIntersection, IsUnion, IsHomology, IsExact, IsoOver, IsoOverBoth, HasKernel, HasDirectSum, IsAdditive, IsAbelian}
use Rattle.cap_ops.specs.Values.{Value}
use Rattle.cap_ops.specs.Meaning.{Meaning}
use Rattle.cap_alike.specs.Alike.{Pairing, Alike, OneToOne}
use Rattle.cap_alike.specs.Values.{PairedValue, PairedValues}

-- two categories, any ones, that are alike
pub record AlikePair : Type 1 where
  pub O : Type 0
  pub N : Type 0
  pub Obj : Type 0
  pub Mor : Type 0
  pub left : CategoryData O N
  pub right : CategoryData Obj Mor
  pub pairs : Pairing O N Obj Mor
  pub alike : Alike left right pairs

-- one is linear exactly where the other is, and so for additive and abelian
pub record StructureGoes (A : AlikePair) : Type 0 where
  pub linear : IsLinear A.left ↔ IsLinear A.right
  pub additive : IsAdditive A.left ↔ IsAdditive A.right
  pub abelian : IsAbelian A.left ↔ IsAbelian A.right

-- both are none, or both are morphisms that are paired
abbrev pub PairedOptions : {O N Obj Mor : Type 0} → Pairing O N Obj Mor → O → O → Obj → Obj → Option N → Option Mor → Type 0
PairedOptions R a b x y (Some f) (Some g) = R.arrow a b x y f g
PairedOptions R a b x y None None = Unit {0}
PairedOptions R a b x y _ _ = ⊥

-- A morphism f: a→b has a property of these exactly where its partner g: x→y has it.
pub record InversesGo {O N Obj Mor : Type 0} (D : CategoryData O N) (C : CategoryData Obj Mor) (R : Pairing O N Obj Mor) : Type 0 where
  pub mono : {a b : O} {x y : Obj} {f : N} {g : Mor} → R.object a x → R.object b y → R.arrow a b x y f g → IsMono D a b f ↔ IsMono C x y g
  pub epi : {a b : O} {x y : Obj} {f : N} {g : Mor} → R.object a x → R.object b y → R.arrow a b x y f g → IsEpi D a b f ↔ IsEpi C x y g
  pub iso : {a b : O} {x y : Obj} {f : N} {g : Mor} → R.object a x → R.object b y → R.arrow a b x y f g → IsIso D a b f ↔ IsIso C x y g
  pub split_mono : {a b : O} {x y : Obj} {f : N} {g : Mor} → R.object a x → R.object b y → R.arrow a b x y f g → IsSplitMono D a b f ↔ IsSplitMono C x y g
  pub split_epi : {a b : O} {x y : Obj} {f : N} {g : Mor} → R.object a x → R.object b y → R.arrow a b x y f g → IsSplitEpi D a b f ↔ IsSplitEpi C x y g
  pub section : {a b : O} {x y : Obj} {f s : N} {g t : Mor} → R.object b y → R.arrow a b x y f g → R.arrow b a y x s t → IsSection D a b f s ↔ IsSection C x y g t
  pub retraction : {a b : O} {x y : Obj} {f r : N} {g s : Mor} → R.object a x → R.arrow a b x y f g → R.arrow b a y x r s → IsRetraction D a b f r ↔ IsRetraction C x y g s
  pub inverse : {a b : O} {x y : Obj} {f s : N} {g t : Mor} → R.object a x → R.object b y → R.arrow a b x y f g → R.arrow b a y x s t → IsInverse D a b f s ↔ IsInverse C x y g t

-- kernels, equalizers and their duals
pub record KernelsGo {O N Obj Mor : Type 0} (D : CategoryData O N) (C : CategoryData Obj Mor) (R : Pairing O N Obj Mor) : Type 0 where
  pub kernel : {k a b : O} {z x y : Obj} {f i : N} {g j : Mor} → R.object k z → R.object a x → R.object b y → R.arrow a b x y f g → R.arrow k a z x i j → IsKernel D k a b f i ↔ IsKernel C z x y g j
  pub weak_kernel : {k a b : O} {z x y : Obj} {f i : N} {g j : Mor} → R.object k z → R.object a x → R.object b y → R.arrow a b x y f g → R.arrow k a z x i j → IsWeakKernel D k a b f i ↔ IsWeakKernel C z x y g j
  pub cokernel : {a b c : O} {x y z : Obj} {f p : N} {g q : Mor} → R.object c z → R.object b y → R.object a x → R.arrow a b x y f g → R.arrow b c y z p q → IsCokernel D a b c f p ↔ IsCokernel C x y z g q
  pub weak_cokernel : {a b c : O} {x y z : Obj} {f p : N} {g q : Mor} → R.object c z → R.object b y → R.object a x → R.arrow a b x y f g → R.arrow b c y z p q → IsWeakCokernel D a b c f p ↔ IsWeakCokernel C x y z g q
  pub equalizer : {k a b : O} {z x y : Obj} {f f' e : N} {g g' h : Mor} → R.object k z → R.object a x → R.arrow a b x y f g → R.arrow a b x y f' g' → R.arrow k a z x e h → IsEqualizer D k a b f f' e ↔ IsEqualizer C z x y g g' h
  pub coequalizer : {a b c : O} {x y z : Obj} {f f' q : N} {g g' r : Mor} → R.object c z → R.object b y → R.arrow a b x y f g → R.arrow a b x y f' g' → R.arrow b c y z q r → IsCoequalizer D a b c f f' q ↔ IsCoequalizer C x y z g g' r
  pub has_kernel : {a b : O} {x y : Obj} {f : N} {g : Mor} → R.object a x → R.object b y → R.arrow a b x y f g → HasKernel D a b f ↔ HasKernel C x y g

-- products, sums, squares and their duals, and lifts
pub record SquaresGo {O N Obj Mor : Type 0} (D : CategoryData O N) (C : CategoryData Obj Mor) (R : Pairing O N Obj Mor) : Type 0 where
  pub product : {s a b : O} {z x y : Obj} {p q : N} {p' q' : Mor} → R.object s z → R.object a x → R.object b y → R.arrow s a z x p p' → R.arrow s b z y q q' → IsProduct D s a b p q ↔ IsProduct C z x y p' q'
  pub coproduct : {s a b : O} {z x y : Obj} {i j : N} {i' j' : Mor} → R.object s z → R.object a x → R.object b y → R.arrow a s x z i i' → R.arrow b s y z j j' → IsCoproduct D a b s i j ↔ IsCoproduct C x y z i' j'
  pub direct_sum : {s a b : O} {z x y : Obj} {i j p q : N} {i' j' p' q' : Mor} → R.object s z → R.object a x → R.object b y
      → R.arrow a s x z i i' → R.arrow b s y z j j' → R.arrow s a z x p p' → R.arrow s b z y q q' → IsDirectSum D s a b i j p q ↔ IsDirectSum C z x y i' j' p' q'
  pub has_direct_sum : {a b : O} {x y : Obj} → R.object a x → R.object b y → HasDirectSum D a b ↔ HasDirectSum C x y
  pub zero_object : {a : O} {x : Obj} → R.object a x → IsZeroObject D a ↔ IsZeroObject C x
  pub pullback : {k a b c : O} {z x y w : Obj} {f g p q : N} {f' g' p' q' : Mor} → R.object k z → R.object a x → R.object b y → R.arrow a c x w f f' → R.arrow b c y w g g' → R.arrow k a z x p p' → R.arrow k b z y q q'
      → IsPullback D k a b c f g p q ↔ IsPullback C z x y w f' g' p' q'
  pub pushout : {k a b c : O} {z x y w : Obj} {f g i j : N} {f' g' i' j' : Mor} → R.object k z → R.object a x → R.object b y → R.arrow c a w x f f' → R.arrow c b w y g g' → R.arrow a k x z i i' → R.arrow b k y z j j'
      → IsPushout D c a b k f g i j ↔ IsPushout C w x y z f' g' i' j'
  pub lift : {x a b : O} {w y z : Obj} {t f : N} {t' f' : Mor} (o : Option N) (q : Option Mor) → R.object x w → R.object a y → R.arrow x b w z t t' → R.arrow a b y z f f' → PairedOptions R x a w y o q → IsLift D x a b t f o ↔ IsLift C w y z t' f' q
  pub colift : {c a x : O} {z y w : Obj} {f t : N} {f' t' : Mor} (o : Option N) (q : Option Mor) → R.object x w → R.object a y → R.arrow c a z y f f' → R.arrow c x z w t t' → PairedOptions R a x y w o q → IsColift D c a x f t o ↔ IsColift C z y w f' t' q

-- images and what is made of them
pub record ImagesGo {O N Obj Mor : Type 0} (D : CategoryData O N) (C : CategoryData Obj Mor) (R : Pairing O N Obj Mor) : Type 0 where
  pub through : {c r b : O} {w z y : Obj} {h f : N} {h' f' : Mor} → R.object c w → R.object r z → R.arrow r b z y h h' → R.arrow c b w y f f' → Through D c r b h f ↔ Through C w z y h' f'
  pub image : {a k b : O} {x z y : Obj} {f e m : N} {f' e' m' : Mor} → R.object a x → R.object k z → R.object b y → R.arrow a b x y f f' → R.arrow a k x z e e' → R.arrow k b z y m m' → IsImage D a k b f e m ↔ IsImage C x z y f' e' m'
  pub coimage : {a k b : O} {x z y : Obj} {f e m : N} {f' e' m' : Mor} → R.object a x → R.object k z → R.object b y → R.arrow a b x y f f' → R.arrow a k x z e e' → R.arrow k b z y m m' → IsCoimage D a k b f e m ↔ IsCoimage C x z y f' e' m'
  pub intersection : {k a b c : O} {z x y w : Obj} {m n d : N} {m' n' d' : Mor} → R.object k z → R.object a x → R.object b y → R.arrow a c x w m m' → R.arrow b c y w n n' → R.arrow k c z w d d' → IsIntersection D k a b c m n d ↔ IsIntersection C z x y w m' n' d'
  pub union : {u a b c : O} {z x y w : Obj} {m n j : N} {m' n' j' : Mor} → R.object u z → R.object a x → R.object b y → R.object c w → R.arrow a c x w m m' → R.arrow b c y w n n' → R.arrow u c z w j j' → IsUnion D u a b c m n j ↔ IsUnion C z x y w m' n' j'
  pub homology : {k h a b c : O} {z v x y w : Obj} {f g i p : N} {f' g' i' p' : Mor} → R.object k z → R.object h v → R.object a x → R.object b y → R.object c w
      → R.arrow a b x y f f' → R.arrow b c y w g g' → R.arrow k b z y i i' → R.arrow k h z v p p' → IsHomology D k h a b c f g i p ↔ IsHomology C z v x y w f' g' i' p'
  pub exact : {a b c : O} {x y w : Obj} {f g : N} {f' g' : Mor} → R.object a x → R.object b y → R.object c w → R.arrow a b x y f f' → R.arrow b c y w g g' → IsExact D a b c f g ↔ IsExact C x y w f' g'
  pub iso_over : {k l a : O} {z w x : Obj} {i j : N} {i' j' : Mor} → R.object k z → R.object l w → R.arrow k a z x i i' → R.arrow l a w x j j' → IsoOver D k l a i j ↔ IsoOver C z w x i' j'
  pub iso_over_both : {k l a b : O} {z w x y : Obj} {p q r s : N} {p' q' r' s' : Mor} → R.object k z → R.object l w → R.arrow k a z x p p' → R.arrow k b z y q q' → R.arrow l a w x r r' → R.arrow l b w y s s' → IsoOverBoth D k l a b p q r s ↔ IsoOverBoth C z w x y p' q' r' s'

-- every notion goes over to the partners, both ways
pub record NotionsGo (A : AlikePair) : Type 0 where
  pub inverses : InversesGo A.left A.right A.pairs
  pub kernels : KernelsGo A.left A.right A.pairs
  pub squares : SquaresGo A.left A.right A.pairs
  pub images : ImagesGo A.left A.right A.pairs

-- where an object has one partner, an answer has an operation's meaning exactly where its partner has it, for each of the 44 operations
abbrev pub MeaningsGo : AlikePair → Type 0
MeaningsGo A = OneToOne A.pairs → (op : ℕ) (args : List (Value A.O A.N)) (brgs : List (Value A.Obj A.Mor)) (v : Value A.O A.N) (w : Value A.Obj A.Mor)
    → PairedValues A.pairs args brgs → PairedValue A.pairs v w → Meaning A.left op args v ↔ Meaning A.right op brgs w
