use Rattle.std.proofs.Common.{◌∙◌, sym, ap, subst}
use Rattle.cap_freyd.proofs.Sizes.{either}
use Rattle.cap_freyd_laws.specs.Freyd.{IsFreydMorphism}
use Rattle.cap_freyd_laws.specs.Canonical.{image_embedding, lift_of}
use Rattle.cap_freyd_univ.proofs.Images.{image-made, cokernel-is-morphism, embedding-is-morphism, lift-is-there}
use Rattle.cap_freyd_univ.proofs.image.freyd_image.Goals as goal

pub freyd_kernel-requires : goal.freyd_kernel-requires
freyd_kernel-requires g c =
    let L = g.met.P.Cat.linear c.args.below.now in
    let K = g.P.Cat.category c.args.below.now in
    record { test = subst (λ q. IsFreydMorphism K q.from.relation q.to.relation q.alpha) (sym c.in_ok-projection.ensures.0) (cokernel-is-morphism L (record { is = g.met.P.Additive.sum_is c.args.below.now }) c.requires) }

pub freyd_lift-requires-clause-right : goal.freyd_lift-requires-clause-right
freyd_lift-requires-clause-right g c =
    let L = g.met.P.Cat.linear c.args.below.now in
    let K = g.P.Cat.category c.args.below.now in
    let m = rw c.in_ok-projection.ensures.0 at c.in_ok-embedding.ensures.0 in
    subst (λ q. IsFreydMorphism K q.from.relation q.to.relation q.alpha) (sym m) (embedding-is-morphism L (record { is = g.met.P.Additive.sum_is c.args.below.now }) c.requires (record { is = g.met.P.WeakKernels.weak_kernel_is c.args.below.now }))

pub freyd_lift-requires-clause-targets : goal.freyd_lift-requires-clause-targets
freyd_lift-requires-clause-targets g c =
    let m = rw c.in_ok-projection.ensures.0 at c.in_ok-embedding.ensures.0 in
    sym (ap (λ q. q.to) m)

pub unreachable-requires : goal.unreachable-requires
unreachable-requires g c =
    let L = g.met.P.Cat.linear c.args.below.now in
    let m = rw c.in_ok-projection.ensures.0 at c.in_ok-embedding.ensures.0 in
    let l = rw m at c.in_ok-lift.ensures.0 in
    lift-is-there L (record { is = g.met.P.Additive.sum_is c.args.below.now }) c.requires (record { is = g.met.P.WeakKernels.weak_kernel_is c.args.below.now }) (record { is = g.met.P.Lifts.solves c.args.below.now }) (sym l ∙ c.in_default.is)

pub returns : goal.returns
returns g c =
    let K = g.P.Cat.category c.args.below.now in
    let p = c.in_ok-projection.ensures.0 in
    let m = rw p at c.in_ok-embedding.ensures.0 in
    let l = rw m at c.in_ok-lift.ensures.0 in
    let f = c.args.f.now in
    let embedding = image_embedding K (g.P.Additive.sum_of c.args.below.now) (g.P.WeakKernels.weak_kernel_of c.args.below.now) f in (
      image-made (lift_of K (g.P.Lifts.solution_of c.args.below.now) f embedding) c.in-Some.e c.in_ok-embedding.embedding embedding f m (sym l ∙ c.in-Some.is),
      either (either c.in_ok-projection.ensures.1 (rw p at c.in_ok-embedding.ensures.1)) (rw m at c.in_ok-lift.ensures.1),
    )
