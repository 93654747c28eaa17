use Rattle.cap_laws.proofs.Sizes.{first-arrow}
use Rattle.cap_laws.proofs.examples.tests.kernel_lifted.Goals as goal

pub lift-requires-clause-left : goal.lift-requires-clause-left
lift-requires-clause-left g c =
    let K = g.C.Cat.category c.args.c.now in
    let W = g.met.C.Abelian.kernel_is c.args.c.now _ _ _ (first-arrow K c.args.f.now c.requires) in
    rw c.in_ok-i.ensures.0 W.arrow.is

pub lift-requires-clause-right : goal.lift-requires-clause-right
lift-requires-clause-right g c =
    let K = g.C.Cat.category c.args.c.now in
    let W = g.met.C.Abelian.kernel_is c.args.c.now _ _ _ (first-arrow K c.args.f.now c.requires) in
    rw c.in_ok-i.ensures.0 W.arrow.is
