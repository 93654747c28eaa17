-- Images of the Freyd category.
use Rattle.std.proofs.Common.{List, Option, Some, None, unwrap_or}
use Rattle.cap_laws.specs.Linear.{CategoryData, IsLinear, Arrow, Same}
use Rattle.cap_laws.specs.Universal.{Some-arrow, IsLift, IsImage}
use Rattle.cap_laws.specs.declared.values.Sum.{Sum}
use Rattle.cap_laws.specs.declared.values.System.{System}
use Rattle.cap_laws.proofs.Opposite.{turned, turned-same}
use Rattle.cap_abstract.proofs.Images.{image-from-kernel}
use Rattle.cap_freyd_laws.specs.declared.values.Presentation.{Presentation}
use Rattle.cap_freyd_laws.specs.declared.values.PresentationMor.{PresentationMor}
use Rattle.cap_freyd_laws.specs.Freyd.{freyd_data}
use Rattle.cap_freyd_laws.specs.Canonical.{HasSums, HasWeakKernels, HasSolver, image_embedding, image_of, lift_of}
use Rattle.cap_freyd_laws.proofs.Linear.{freyd-linear}
use Rattle.cap_freyd_laws.proofs.Kernel.{freyd-kernel}
use Rattle.cap_freyd_laws.proofs.Cokernel.{freyd-cokernel}
use Rattle.cap_freyd_laws.proofs.Abelian.{freyd-abelian}
use Rattle.cap_freyd_laws.proofs.Lifts.{freyd-lift}

-- where there is a lift, the answer of one is a lift
pub lift-there : {Obj Mor : Type 0} {C : CategoryData Obj Mor} {x a b : Obj} {t f : Mor} (d : Mor) (r : Option Mor) → IsLift C x a b t f r → Some-arrow C x a (λ u. Same C x b (C.compose u f) t) → Arrow C x a (unwrap_or r d) × Same C x b (C.compose (unwrap_or r d) f) t
lift-there d (Some u) l s = l
lift-there d None l s = absurd (l s)

module _ {Obj Mor : Type 0} {C : CategoryData Obj Mor} (L : IsLinear C) where
  pub image-parts : {sum : Obj → Obj → Sum Mor} {weak_kernel : Mor → Mor} {solve : System Obj Mor → Option (List Mor)} → HasSums C sum → HasWeakKernels C weak_kernel → HasSolver C solve → {a b : Presentation Mor} {f : PresentationMor Mor} → Arrow (freyd_data C) a b f → let r = image_of C sum weak_kernel solve f in Arrow (freyd_data C) a r.1.from r.0 × Same (freyd_data C) a b ((freyd_data C).compose r.0 r.1) f
  image-parts {sum} {weak_kernel} {solve} S W H {a} {b} {f} F =
      let m = image_embedding C sum weak_kernel f in
      let Q = freyd-cokernel L S F in
      let K = freyd-kernel L S W (turned Q.arrow) in
      let u = K.lift F (turned-same Q.zero) in
      lift-there {C = freyd_data C} {x = a} {a = m.from} {b = b} {t = f} {f = m} f (lift_of C solve f m) (freyd-lift L H F K.arrow) (record { by = u.by; arrow = u.arrow; holds = u.holds })

  -- the canonical image is one
  pub freyd-image : {sum : Obj → Obj → Sum Mor} {weak_kernel : Mor → Mor} {solve : System Obj Mor → Option (List Mor)} (z : Obj) → C.is_object z → HasSums C sum → HasWeakKernels C weak_kernel → HasSolver C solve → {a b : Presentation Mor} {f : PresentationMor Mor} → Arrow (freyd_data C) a b f → let r = image_of C sum weak_kernel solve f in IsImage (freyd_data C) a r.1.from b f r.0 r.1
  freyd-image z o S W H {a} {b} {f} F =
      let Q = freyd-cokernel L S F in
      let K = freyd-kernel L S W (turned Q.arrow) in
      let e = image-parts S W H F in
      image-from-kernel (freyd-linear L) (freyd-abelian L z o S W) Q K e.0 e.1
