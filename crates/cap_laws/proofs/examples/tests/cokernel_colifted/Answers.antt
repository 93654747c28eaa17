use Rattle.cap_laws.proofs.Sizes.{first-arrow}
use Rattle.cap_laws.proofs.examples.tests.cokernel_colifted.Goals as goal

pub colift-requires-clause-left : goal.colift-requires-clause-left
colift-requires-clause-left g c =
    let K = g.C.Cat.category c.args.c.now in
    let W = g.met.C.Abelian.cokernel_is c.args.c.now _ _ _ (first-arrow K c.args.f.now c.requires) in
    rw c.in_ok-p.ensures.0 W.arrow.is

pub colift-requires-clause-right : goal.colift-requires-clause-right
colift-requires-clause-right g c =
    let K = g.C.Cat.category c.args.c.now in
    let W = g.met.C.Abelian.cokernel_is c.args.c.now _ _ _ (first-arrow K c.args.f.now c.requires) in
    rw c.in_ok-p.ensures.0 W.arrow.is
