-- Laws of monos and isomorphisms. A law on epis or retractions is the law on monos or sections in the opposite category.
use Rattle.std.specs.Prelude.{◌↔◌}
use Rattle.cap_laws.specs.Linear.{CategoryData, Arrow, Same}
use Rattle.cap_laws.specs.Universal.{IsMono, IsEpi, IsWeakKernel, IsKernel, IsPullback, IsSection, IsSplitMono, IsSplitEpi, IsInverse, IsIso}

-- f is mono exactly where its kernel is 0
pub record MonoByKernel {Obj Mor : Type 0} (C : CategoryData Obj Mor) : Type 0 where
  pub law : {k a b : Obj} {f i : Mor} → Arrow C a b f → IsKernel C k a b f i → (Same C k a i (C.zero k a) ↔ IsMono C a b f)

-- f is mono exactly where a weak kernel is 0
pub record MonoByWeakKernel {Obj Mor : Type 0} (C : CategoryData Obj Mor) : Type 0 where
  pub law : {k a b : Obj} {f i : Mor} → Arrow C a b f → IsWeakKernel C k a b f i → (Same C k a i (C.zero k a) ↔ IsMono C a b f)

-- f is mono exactly where the parts of a pullback of f and f are congruent
pub record MonoByPullback {Obj Mor : Type 0} (C : CategoryData Obj Mor) : Type 0 where
  pub law : {k a b : Obj} {f p q : Mor} → Arrow C a b f → IsPullback C k a a b f f p q → (Same C k a p q ↔ IsMono C a b f)

-- where f has an inverse, each section of f is one; and a section s is one where f·s = 1
pub record InverseBySection {Obj Mor : Type 0} (C : CategoryData Obj Mor) : Type 0 where
  pub law : {a b : Obj} {f s : Mor} → Arrow C a b f → IsSection C a b f s → (Same C a a (C.compose f s) (C.identity a) ↔ IsInverse C a b f s)
  pub each : {a b : Obj} {f g s : Mor} → Arrow C a b f → IsInverse C a b f g → IsSection C a b f s → IsInverse C a b f s

-- an isomorphism is a split mono that is a split epi
pub record IsoBySplits {Obj Mor : Type 0} (C : CategoryData Obj Mor) : Type 0 where
  pub law : {a b : Obj} {f : Mor} → (IsSplitMono C a b f × IsSplitEpi C a b f ↔ IsIso C a b f)

-- an isomorphism is a mono that is epi
pub record IsoByMonoAndEpi {Obj Mor : Type 0} (C : CategoryData Obj Mor) : Type 0 where
  pub law : {a b : Obj} {f : Mor} → (IsMono C a b f × IsEpi C a b f ↔ IsIso C a b f)
