use Rattle.std.proofs.Common.{Some, refl, sym, ◌∙◌, subst}
use Rattle.std.specs.Prelude.{IsSome}
use Rattle.cap_grammar.specs.declared.tree.Command.TheVariants as command
use Rattle.cap_ops.proofs.Places.{some_inner}
use Rattle.cap_seat.specs.Seats.{told_at}
use Rattle.cap_commands.specs.Doing.{IsAtSeat, AreCallable}
use Rattle.cap_commands.proofs.Ready.{object-ready, let-ready, call-ready}
use Rattle.cap_commands.proofs.Weights.{has_weights}
use Rattle.cap_commands.proofs.Clauses.{register-clause, finalise-clause, plan-clause, object-clause, let-clause, call-clause}
use Rattle.cap_commands.proofs.at_seat.run_at.Goals as goal

pub register_line-requires-clause-defaults : goal.register_line-requires-clause-defaults
register_line-requires-clause-defaults g c = has_weights c.args.made.now.category

pub run_object-requires-clause-form : goal.run_object-requires-clause-form
run_object-requires-clause-form g c =
    let k = c.in-Object in
    object-ready c.args.standing.now c.args.made.now c.args.seat.now k.cat k.name k.lit (subst (λ x. IsAtSeat c.args.standing.now c.args.made.now c.args.seat.now x) k.is c.requires.comes)

pub named_object-a-requires : goal.named_object-a-requires
named_object-a-requires g c =
    let k = c.in-Let in
    let R = let-ready c.args.standing.now c.args.made.now c.args.seat.now k.cat k.name k.src k.tgt k.lit (subst (λ x. IsAtSeat c.args.standing.now c.args.made.now c.args.seat.now x) k.is c.requires.comes) in
    subst (λ o. IsSome o) (sym R.source.1) refl

pub named_object-b-requires : goal.named_object-b-requires
named_object-b-requires g c =
    let k = c.in-Let in
    let R = let-ready c.args.standing.now c.args.made.now c.args.seat.now k.cat k.name k.src k.tgt k.lit (subst (λ x. IsAtSeat c.args.standing.now c.args.made.now c.args.seat.now x) k.is c.requires.comes) in
    subst (λ o. IsSome o) (sym R.target.1) refl

pub run_let-requires-clause-source : goal.run_let-requires-clause-source
run_let-requires-clause-source g c =
    let k = c.in-Let in
    let R = let-ready c.args.standing.now c.args.made.now c.args.seat.now k.cat k.name k.src k.tgt k.lit (subst (λ x. IsAtSeat c.args.standing.now c.args.made.now c.args.seat.now x) k.is c.requires.comes) in
    subst (λ h. IsSome (told_at c.args.seat.now h)) (some_inner (sym R.source.1 ∙ c.named_object-a.ensures)) R.source.2

pub run_let-requires-clause-target : goal.run_let-requires-clause-target
run_let-requires-clause-target g c =
    let k = c.in-Let in
    let R = let-ready c.args.standing.now c.args.made.now c.args.seat.now k.cat k.name k.src k.tgt k.lit (subst (λ x. IsAtSeat c.args.standing.now c.args.made.now c.args.seat.now x) k.is c.requires.comes) in
    subst (λ h. IsSome (told_at c.args.seat.now h)) (some_inner (sym R.target.1 ∙ c.named_object-b.ensures)) R.target.2

pub run_let-requires-clause-form : goal.run_let-requires-clause-form
run_let-requires-clause-form g c =
    let k = c.in-Let in
    let R = let-ready c.args.standing.now c.args.made.now c.args.seat.now k.cat k.name k.src k.tgt k.lit (subst (λ x. IsAtSeat c.args.standing.now c.args.made.now c.args.seat.now x) k.is c.requires.comes) in
    R.form

pub run_call-requires-clause-callable : goal.run_call-requires-clause-callable
run_call-requires-clause-callable g c =
    let k = c.in-Call in
    subst (λ ts. AreCallable c.args.standing.now c.args.made.now.category (told_at c.args.seat.now) k.op.0 ts) (sym c.as_slice.ensures)
    (call-ready c.args.standing.now c.args.made.now c.args.seat.now k.cat k.name k.op k.args (subst (λ x. IsAtSeat c.args.standing.now c.args.made.now c.args.seat.now x) k.is c.requires.comes))

pub returns-in-Register-clause-does : goal.returns-in-Register-clause-does
returns-in-Register-clause-does g c =
    let k = c.in-Register in
    register-clause g.D.Desk.others g.met.D.Desk.are_others c.args.standing.now c.args.made.now c.args.seat.now c.register_line.new.seat c.requires.offer c.args.command.now
    k.cat k.op k.weight c.written_weight.result k.is c.written_weight.ensures c.register_line.ensures.holds c.register_line.result c.register_line.ensures.does

pub returns-in-Finalise-clause-does : goal.returns-in-Finalise-clause-does
returns-in-Finalise-clause-does g c =
    finalise-clause g.D.Desk.others g.met.D.Desk.are_others c.args.standing.now c.args.made.now c.args.seat.now c.finalise_line.new.seat c.requires.offer c.args.command.now
    c.in-Finalise.cat c.in-Finalise.is c.finalise_line.ensures.holds c.finalise_line.result c.finalise_line.ensures.does

pub returns-in-Plan-clause-does : goal.returns-in-Plan-clause-does
returns-in-Plan-clause-does g c =
    plan-clause g.D.Desk.others g.met.D.Desk.are_others c.args.standing.now c.args.made.now c.args.seat.now c.plan_line.new.seat c.requires.offer c.args.command.now
    c.in-Plan.cat c.in-Plan.is c.plan_line.ensures.holds c.plan_line.result c.plan_line.ensures.does

pub returns-in-Object-clause-does : goal.returns-in-Object-clause-does
returns-in-Object-clause-does g c =
    let k = c.in-Object in
    object-clause g.D.Desk.others g.met.D.Desk.are_others c.args.standing.now c.args.made.now c.args.seat.now c.run_object.new.seat c.requires.offer c.args.command.now
    k.cat k.name k.lit k.is c.run_object.ensures.holds c.run_object.result c.run_object.ensures.does

pub returns-in-Let-clause-does : goal.returns-in-Let-clause-does
returns-in-Let-clause-does g c =
    let k = c.in-Let in
    let-clause g.D.Desk.others g.met.D.Desk.are_others c.args.standing.now c.args.made.now c.args.seat.now c.args.seat.now c.requires.offer c.args.command.now
    k.cat k.name k.src k.tgt k.lit c.named_object-a.result c.named_object-b.result k.is c.named_object-a.ensures c.named_object-b.ensures c.requires.holds c.run_let.result c.run_let.ensures

pub returns-in-Call-clause-does : goal.returns-in-Call-clause-does
returns-in-Call-clause-does g c =
    let k = c.in-Call in
    call-clause g.D.Desk.others g.met.D.Desk.are_others c.args.standing.now c.args.made.now c.args.seat.now c.run_call.new.seat c.requires.offer c.args.command.now
    k.cat k.name k.op k.args c.as_slice.result.now k.is c.as_slice.ensures c.run_call.ensures.holds c.run_call.result c.run_call.ensures.gives
