use Rattle.std.proofs.Common.{sym, subst}
use Rattle.std.specs.Prelude.{IfOk}
use Rattle.cap_run.specs.Plans.{AreRules}
use Rattle.cap_seat.proofs.TheRules.{rules-run}
use Rattle.cap_session_lines.specs.Doing.{CallDoes}
use Rattle.cap_session_lines.proofs.Does.{call-clause, ok-line}
use Rattle.cap_session_lines.proofs.calls.call_line.Goals as goal

pub call-end-requires-clause-ready : goal.call-end-requires-clause-ready
call-end-requires-clause-ready g c = record { offers = sym c.requires.offer; by_rules = sym c.requires.rules; are = subst AreRules (sym c.requires.rules) rules-run }

pub returns-clause-does : goal.returns-clause-does
returns-clause-does g c =
    let s = c.args.seat.now in
    let s' = c.call-end.new.board in
    let end = c.call-end.result in
    subst (λ x. IfOk c.end_line.result (λ answer. CallDoes (g.C.Offer.offered x) g.C.O.Datum.cells_of g.C.M.Datum.cells_of g.D.Desk.others s c.args.op.0 c.args.args.now answer s')) c.requires.offer
    (call-clause (g.C.Offer.offered c.args.offer.now) g.C.O.Datum.cells_of g.C.M.Datum.cells_of g.D.Desk.others s s' c.call-end.ensures.onward c.args.op.0 c.args.args.now end c.end_line.result c.call-end.ensures.says (ok-line end c.end_line.result c.end_line.ensures))
