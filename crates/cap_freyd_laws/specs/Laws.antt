-- The laws of the Freyd category of C, as statements on C.
use Rattle.std.specs.Prelude.{◌↔◌, List, Option}
use Rattle.cap_laws.specs.declared.values.Sum.{Sum}
use Rattle.cap_laws.specs.declared.values.System.{System}
use Rattle.cap_laws.specs.Linear.{CategoryData, Arrow, Same}
use Rattle.cap_laws.specs.Universal.{Some-arrow, IsZeroObject, IsKernel, IsCokernel, IsLift, IsColift, IsImage, IsAdditive}
use Rattle.cap_laws.specs.Systems.{IsSystem, IsSolution}
use Rattle.cap_freyd_laws.specs.declared.values.Presentation.{Presentation}
use Rattle.cap_freyd_laws.specs.declared.values.PresentationMor.{PresentationMor}
use Rattle.cap_freyd_laws.specs.Freyd.{IsFreydMorphism, freyd_data}
use Rattle.cap_freyd_laws.specs.Canonical.{HasSums, freyd_sum, kernel_of, cokernel_of, morphism_system, congruence_system, lift_system, colift_system, lift_of, colift_of, image_of}

-- it is additive: the identity of a zero object, as a relation, is a zero object, and the block sum of relations is a direct sum
pub record FreydAdditive {Obj Mor : Type 0} (C : CategoryData Obj Mor) (zero_object : Obj) (sum : Obj → Obj → Sum Mor) : Type 0 where
  pub additive : IsAdditive (freyd_data C)
  pub zero_object_is : IsZeroObject (freyd_data C) (record { relation = C.identity zero_object })
  pub sum_is : HasSums (freyd_data C) (freyd_sum C sum)

-- the canonical kernel is a kernel
pub record FreydKernels {Obj Mor : Type 0} (C : CategoryData Obj Mor) (sum : Obj → Obj → Sum Mor) (weak_kernel : Mor → Mor) : Type 0 where
  pub law : {a b : Presentation Mor} {f : PresentationMor Mor} → Arrow (freyd_data C) a b f
      → IsKernel (freyd_data C) (kernel_of C sum weak_kernel f).from a b f (kernel_of C sum weak_kernel f)

-- the canonical cokernel is a cokernel
pub record FreydCokernels {Obj Mor : Type 0} (C : CategoryData Obj Mor) (sum : Obj → Obj → Sum Mor) : Type 0 where
  pub law : {a b : Presentation Mor} {f : PresentationMor Mor} → Arrow (freyd_data C) a b f → IsCokernel (freyd_data C) a b (cokernel_of C sum f).to f (cokernel_of C sum f)

-- the canonical lift is a lift, or none exactly where there is none; dually the canonical colift
pub record FreydLifts {Obj Mor : Type 0} (C : CategoryData Obj Mor) (solve : System Obj Mor → Option (List Mor)) : Type 0 where
  pub lift : {x a b : Presentation Mor} {t f : PresentationMor Mor} → Arrow (freyd_data C) x b t → Arrow (freyd_data C) a b f → IsLift (freyd_data C) x a b t f (lift_of C solve t f)
  pub colift : {c a x : Presentation Mor} {f t : PresentationMor Mor} → Arrow (freyd_data C) c a f → Arrow (freyd_data C) c x t → IsColift (freyd_data C) c a x f t (colift_of C solve f t)

-- the canonical image is an image
pub record FreydImages {Obj Mor : Type 0} (C : CategoryData Obj Mor) (sum : Obj → Obj → Sum Mor) (weak_kernel : Mor → Mor) (solve : System Obj Mor → Option (List Mor)) : Type 0 where
  pub law : {a b : Presentation Mor} {f : PresentationMor Mor} → Arrow (freyd_data C) a b f
      → let r = image_of C sum weak_kernel solve f in IsImage (freyd_data C) a r.1.from b f r.0 r.1

-- s is a system, and P holds exactly where it has a solution
pub record ExactlyWhereSolved {Obj Mor : Type 0} (C : CategoryData Obj Mor) (s : System Obj Mor) (P : Type 0) : Type 0 where
  pub system : IsSystem C s
  pub exactly : P ↔ ((xs : List Mor) × IsSolution C s xs)

-- what is a morphism, what is congruent, and where there are lifts and colifts, is decided by systems below
pub record FreydSystems {Obj Mor : Type 0} (C : CategoryData Obj Mor) : Type 0 where
  pub morphism : {a b alpha : Mor} → C.is_morphism a → C.is_morphism b → Arrow C (C.target a) (C.target b) alpha
      → ExactlyWhereSolved C (morphism_system C a b alpha) (IsFreydMorphism C a b alpha)
  pub congruent : {a b : Presentation Mor} {f g : PresentationMor Mor} → Arrow (freyd_data C) a b f → Arrow (freyd_data C) a b g
      → ExactlyWhereSolved C (congruence_system C a.relation b.relation f.alpha g.alpha) (Same (freyd_data C) a b f g)
  pub lift : {x a b : Presentation Mor} {t f : PresentationMor Mor} → Arrow (freyd_data C) x b t → Arrow (freyd_data C) a b f
      → ExactlyWhereSolved C (lift_system C x.relation a.relation b.relation t.alpha f.alpha)
      (Some-arrow (freyd_data C) x a (λ u. Same (freyd_data C) x b ((freyd_data C).compose u f) t))
  pub colift : {c a x : Presentation Mor} {f t : PresentationMor Mor} → Arrow (freyd_data C) c a f → Arrow (freyd_data C) c x t
      → ExactlyWhereSolved C (colift_system C c.relation a.relation x.relation f.alpha t.alpha)
      (Some-arrow (freyd_data C) a x (λ u. Same (freyd_data C) c x ((freyd_data C).compose f u) t))
