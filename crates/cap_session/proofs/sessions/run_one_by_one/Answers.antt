use Rattle.std.proofs.Common.{◌+◌, sym, subst, arith}
use Rattle.cap_desk.specs.Woven.{IsNothing}
use Rattle.cap_traces.proofs.Sessions.{sessions-more}
use Rattle.cap_session.specs.Sessions.{SessionComes, RunsSession}
use Rattle.cap_session.proofs.Sitting.{Sitting, session-comes, sitting-on}
use Rattle.cap_session.proofs.sessions.run_one_by_one.Goals as goal

pub run_session-requires-clause-comes : goal.run_session-requires-clause-comes
run_session-requires-clause-comes g c κs within =
    subst (SessionComes c.sessions.course) (sym c.as_slice-commands.ensures) (session-comes c.args.course.now c.args.sessions.now c.args.traces.now.items c.sessions.part-index c.sessions.course c.sessions.traces.items c.part-item.result c.sessions-test.true c.part-item.is c.sessions.invariant)

pub sessions-preserved : goal.sessions-preserved
sessions-preserved g c =
    let C0 = c.args.course.now in
    let sessions = c.args.sessions.now in
    let i = c.sessions.part-index in
    subst (Sitting C0 sessions c.args.traces.now.items (i + 1) c.run_session.new.course) (sym c.in_ok-push.ensures.items)
    (sitting-on C0 sessions c.args.traces.now.items i c.sessions.course c.sessions.traces.items c.part-item.result c.sessions-test.true c.part-item.is c.sessions.invariant sessions-more c.next_session-session.result c.in_ok-run_session.field-0 c.run_session.new.course
    (subst (λ cs. RunsSession IsNothing c.next_session-session.result c.sessions.course cs c.in_ok-run_session.field-0 c.run_session.new.course) c.as_slice-commands.ensures c.in_ok-run_session.ensures) (omega (arith, c.next_session-session.ensures, c.len.ensures, c.sessions.traces.ok.0)))
