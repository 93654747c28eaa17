use Rattle.cap_laws.proofs.Sizes.{first-arrow}
use Rattle.cap_laws.proofs.examples.tests.weak_kernel_then.Goals as goal

pub compose-requires-clause-left : goal.compose-requires-clause-left
compose-requires-clause-left g c =
    let K = g.C.Cat.category c.args.c.now in
    let W = g.met.C.WeakKernels.weak_kernel_is c.args.c.now _ _ _ (first-arrow K c.args.f.now c.requires) in
    rw c.in_ok-i.ensures.0 W.arrow.is

pub compose-requires-clause-meet : goal.compose-requires-clause-meet
compose-requires-clause-meet g c =
    let K = g.C.Cat.category c.args.c.now in
    let W = g.met.C.WeakKernels.weak_kernel_is c.args.c.now _ _ _ (first-arrow K c.args.f.now c.requires) in
    rw c.in_ok-i.ensures.0 W.arrow.to
