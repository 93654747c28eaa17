-- The kernel of the cokernel is a morphism, and the lift along it is there.
use Rattle.std.proofs.Common.{◌≡◌, refl, sym, ap, subst, List, Option, Some, None, unwrap_or}
use Rattle.cap_laws.specs.Linear.{CategoryData, IsLinear, Arrow}
use Rattle.cap_laws.specs.Universal.{IsLift, IsKernel, IsCokernel}
use Rattle.cap_laws.specs.declared.values.Sum.{Sum}
use Rattle.cap_laws.specs.declared.values.System.{System}
use Rattle.cap_laws.proofs.Opposite.{turned, turned-same}
use Rattle.cap_freyd_laws.specs.declared.values.PresentationMor.{PresentationMor}
use Rattle.cap_freyd_laws.specs.Freyd.{IsFreydMorphism, freyd_data}
use Rattle.cap_freyd_laws.specs.Canonical.{HasSums, HasWeakKernels, HasSolver, cokernel_of, image_embedding, lift_of}
use Rattle.cap_freyd_laws.proofs.Kernel.{freyd-kernel}
use Rattle.cap_freyd_laws.proofs.Cokernel.{freyd-cokernel}
use Rattle.cap_freyd_laws.proofs.Lifts.{freyd-lift}

pub image-made : {A : Type 0} (o : Option A) (e x m d : A) → x ≡ m → o ≡ Some e → ◌≡◌ {A = A × A} (e, x) (unwrap_or o d, m)
image-made {A} o e x m d p q = subst (λ o'. ◌≡◌ {A = A × A} (e, x) (unwrap_or o' d, m)) (sym q) (ap {B = A × A} (λ y. (e, y)) p)

module _ {Obj Mor : Type 0} {C : CategoryData Obj Mor} (L : IsLinear C) {sum : Obj → Obj → Sum Mor} (S : HasSums C sum) {f : PresentationMor Mor} (p : IsFreydMorphism C f.from.relation f.to.relation f.alpha) where
  at-ends : Arrow (freyd_data C) f.from f.to f
  at-ends = record { is = p; from = refl; to = refl }

  projects : IsCokernel (freyd_data C) f.from f.to (cokernel_of C sum f).to f (cokernel_of C sum f)
  projects = freyd-cokernel L S at-ends

  pub cokernel-is-morphism : let q = cokernel_of C sum f in IsFreydMorphism C q.from.relation q.to.relation q.alpha
  cokernel-is-morphism = (turned projects.arrow).is

  module _ {weak_kernel : Mor → Mor} (W : HasWeakKernels C weak_kernel) where
    embeds : let m = image_embedding C sum weak_kernel f in IsKernel (freyd_data C) m.from f.to (cokernel_of C sum f).to (cokernel_of C sum f) m
    embeds = freyd-kernel L S W (turned projects.arrow)

    pub embedding-is-morphism : let m = image_embedding C sum weak_kernel f in IsFreydMorphism C m.from.relation m.to.relation m.alpha
    embedding-is-morphism = embeds.arrow.is

    pub lift-is-there : {solve : System Obj Mor → Option (List Mor)} → HasSolver C solve → lift_of C solve f (image_embedding C sum weak_kernel f) ≡ None → ⊥
    lift-is-there {solve} H h =
        let m = image_embedding C sum weak_kernel f in
        let u = embeds.lift at-ends (turned-same projects.zero) in
        let n : IsLift (freyd_data C) f.from m.from f.to f m None = subst (λ o. IsLift (freyd_data C) f.from m.from f.to f m o) h (freyd-lift L H at-ends embeds.arrow) in
        n (record { by = u.by; arrow = u.arrow; holds = u.holds })
