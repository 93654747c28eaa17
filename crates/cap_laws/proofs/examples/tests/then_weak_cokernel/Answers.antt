use Rattle.std.proofs.Common.{sym}
use Rattle.cap_laws.proofs.Sizes.{first-arrow}
use Rattle.cap_laws.proofs.examples.tests.then_weak_cokernel.Goals as goal

pub compose-requires-clause-right : goal.compose-requires-clause-right
compose-requires-clause-right g c =
    let K = g.C.Cat.category c.args.c.now in
    let W = g.met.C.WeakCokernels.weak_cokernel_is c.args.c.now _ _ _ (first-arrow K c.args.f.now c.requires) in
    rw c.in_ok-p.ensures.0 W.arrow.is

pub compose-requires-clause-meet : goal.compose-requires-clause-meet
compose-requires-clause-meet g c =
    let K = g.C.Cat.category c.args.c.now in
    let W = g.met.C.WeakCokernels.weak_cokernel_is c.args.c.now _ _ _ (first-arrow K c.args.f.now c.requires) in
    rw c.in_ok-p.ensures.0 (sym W.arrow.to)
