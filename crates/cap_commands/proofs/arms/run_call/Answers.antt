use Rattle.std.proofs.Common.{sym, subst}
use Rattle.cap_offer.specs.Labels.{any_offer}
use Rattle.cap_board.specs.Call.{Ready, CallSays}
use Rattle.cap_accounts.specs.Commands.{AreArguments}
use Rattle.cap_seat.specs.Seats.{told_at, state_of}
use Rattle.cap_commands.proofs.CallArms.{is_ready, call_gives}
use Rattle.cap_commands.proofs.arms.run_call.Goals as goal

pub call-end-requires-clause-ready : goal.call-end-requires-clause-ready
call-end-requires-clause-ready g c = subst (λ rules. Ready (state_of c.args.seat.now) c.args.category.now rules) (sym c.requires.rules) (is_ready c.args.seat.now c.args.category.now c.requires.offer)

pub returns-clause-gives : goal.returns-clause-gives
returns-clause-gives g c =
    let S = c.args.standing.now in
    let x = c.args.category.now in
    let s = c.args.seat.now in
    let s' = c.call-end.new.board in
    let given = c.in_ok-args.args.items in
    call_gives g.D.Desk.others S x c.args.op c.args.tokens.now s s' c.call-end.ensures.onward c.call-end.ensures.grows given
    (subst (λ p. AreArguments S p c.args.tokens.now given) (sym c.field.ensures) c.in_ok-args.ensures) c.call-end.result
    (subst (λ xs. CallSays (any_offer x) (state_of s) (state_of s') (told_at s') c.args.op.0 xs c.call-end.result) c.as_slice.ensures.value c.call-end.ensures.says)
    c.end_line.result c.end_line.ensures
