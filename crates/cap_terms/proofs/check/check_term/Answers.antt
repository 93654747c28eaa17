use Rattle.std.proofs.Common.{refl, sym, subst}
use Rattle.cap_terms.proofs.Bodies.{Tells, body_fault-tells, not_typed}
use Rattle.cap_terms.proofs.check.check_term.Goals as goal

pub returns-in-None-clause-typed : goal.returns-in-None-clause-typed
returns-in-None-clause-typed c = (λ e. subst (Tells c.args.head.0 c.args.body.now) (sym c.in-None.ensures) (body_fault-tells c.args.head.0 c.args.body.now), λ t. refl)

pub returns-in-Some-clause-fault : goal.returns-in-Some-clause-fault
returns-in-Some-clause-fault c = subst (Tells c.args.head.0 c.args.body.now) (sym c.in-Some.ensures) (body_fault-tells c.args.head.0 c.args.body.now)

pub returns-in-Some-clause-typed : goal.returns-in-Some-clause-typed
returns-in-Some-clause-typed c = (
  λ e. absurd (cc),
  λ t. absurd (not_typed c.args.head.0 c.args.body.now c.in-Some.n (subst (Tells c.args.head.0 c.args.body.now) (sym c.in-Some.ensures) (body_fault-tells c.args.head.0 c.args.body.now)) t),
)
