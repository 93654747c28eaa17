use Rattle.std.proofs.Common.{sym, subst, ap, ◌∙◌}
use Rattle.cap_freyd_laws.proofs.Linear.{relation}
use Rattle.cap_freyd_laws.proofs.Kernel.{preimage-at}
use Rattle.cap_freyd_univ.proofs.kernels.freyd_kernel.Goals as goal

pub preimage_of-requires-2-clause-left : goal.preimage_of-requires-2-clause-left
preimage_of-requires-2-clause-left g c =
    let L = g.met.P.Cat.linear c.args.below.now in
    let K = g.P.Cat.category c.args.below.now in
    let I = preimage-at L (record { is = g.met.P.Additive.sum_is c.args.below.now }) (record { is = g.met.P.WeakKernels.weak_kernel_is c.args.below.now }) c.requires.test.arrow (relation L c.requires.test.to) in
    subst (λ x. K.is_morphism x) (sym c.in_ok-embedding.ensures.0) I.arrow.is

pub preimage_of-requires-2-clause-targets : goal.preimage_of-requires-2-clause-targets
preimage_of-requires-2-clause-targets g c =
    let L = g.met.P.Cat.linear c.args.below.now in
    let K = g.P.Cat.category c.args.below.now in
    let I = preimage-at L (record { is = g.met.P.Additive.sum_is c.args.below.now }) (record { is = g.met.P.WeakKernels.weak_kernel_is c.args.below.now }) c.requires.test.arrow (relation L c.requires.test.to) in
    ap (λ x. K.target x) c.in_ok-embedding.ensures.0 ∙ I.arrow.to
