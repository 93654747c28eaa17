use Rattle.std.proofs.Common.{refl, sym, subst, ◌∙◌}
use Rattle.cap_laws.specs.Linear.{Arrow}
use Rattle.cap_laws.proofs.Blocks.{rows-arrow}
use Rattle.cap_freyd_univ.proofs.kernels.preimage_of.Goals as goal

pub weak_kernel-requires : goal.weak_kernel-requires
weak_kernel-requires g c =
    let L = g.met.P.Cat.linear c.args.below.now in
    let K = g.P.Cat.category c.args.below.now in
    let F : Arrow K (K.source c.args.f.now) (K.target c.args.f.now) c.args.f.now = record { is = c.requires.left; from = refl; to = refl } in
    let G : Arrow K (K.source c.args.g.now) (K.target c.args.f.now) c.args.g.now = record { is = c.requires.right; from = refl; to = sym c.requires.targets } in
    let D = g.met.P.Additive.sum_is c.args.below.now (K.source c.args.f.now) (K.source c.args.g.now) (L.source_object c.args.f.now F.is) (L.source_object c.args.g.now G.is) in
    let hd = rw c.source-2.ensures at (rw c.source.ensures at c.in_ok-d.ensures.0) in
    let hs = rw hd at c.in_ok-s.ensures.0 in
    subst (λ x. K.is_morphism x) (sym hs) (rows-arrow L D F G).is

pub compose-requires-clause-left : goal.compose-requires-clause-left
compose-requires-clause-left g c =
    let L = g.met.P.Cat.linear c.args.below.now in
    let K = g.P.Cat.category c.args.below.now in
    let F : Arrow K (K.source c.args.f.now) (K.target c.args.f.now) c.args.f.now = record { is = c.requires.left; from = refl; to = refl } in
    let G : Arrow K (K.source c.args.g.now) (K.target c.args.f.now) c.args.g.now = record { is = c.requires.right; from = refl; to = sym c.requires.targets } in
    let D = g.met.P.Additive.sum_is c.args.below.now (K.source c.args.f.now) (K.source c.args.g.now) (L.source_object c.args.f.now F.is) (L.source_object c.args.g.now G.is) in
    let hd = rw c.source-2.ensures at (rw c.source.ensures at c.in_ok-d.ensures.0) in
    let hs = rw hd at c.in_ok-s.ensures.0 in
    let hw = rw hs at c.in_ok-w.ensures.0 in
    let W = g.met.P.WeakKernels.weak_kernel_is c.args.below.now _ _ _ (rows-arrow L D F G) in
    subst (λ x. K.is_morphism x) (sym hw) W.arrow.is

pub compose-requires-clause-meet : goal.compose-requires-clause-meet
compose-requires-clause-meet g c =
    let L = g.met.P.Cat.linear c.args.below.now in
    let K = g.P.Cat.category c.args.below.now in
    let F : Arrow K (K.source c.args.f.now) (K.target c.args.f.now) c.args.f.now = record { is = c.requires.left; from = refl; to = refl } in
    let G : Arrow K (K.source c.args.g.now) (K.target c.args.f.now) c.args.g.now = record { is = c.requires.right; from = refl; to = sym c.requires.targets } in
    let D = g.met.P.Additive.sum_is c.args.below.now (K.source c.args.f.now) (K.source c.args.g.now) (L.source_object c.args.f.now F.is) (L.source_object c.args.g.now G.is) in
    let hd = rw c.source-2.ensures at (rw c.source.ensures at c.in_ok-d.ensures.0) in
    let hs = rw hd at c.in_ok-s.ensures.0 in
    let hw = rw hs at c.in_ok-w.ensures.0 in
    let W = g.met.P.WeakKernels.weak_kernel_is c.args.below.now _ _ _ (rows-arrow L D F G) in
    rw hw (rw hd (W.arrow.to ∙ sym D.out1.from))
