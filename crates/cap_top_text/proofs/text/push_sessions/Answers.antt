use Rattle.std.proofs.Common.{◌≤◌, ◌++◌, length, ap, refl, ◌∙◌, arith}
use Rattle.std.specs.Prelude.{zip}
use Rattle.std.proofs.lemmas.List.{length_push}
use Rattle.std.proofs.lemmas.Slice.Zip.{zip_turn, zip_end, length-zip}
use Rattle.cap_top_text.specs.Text.{session_text, sessions_text}
use Rattle.cap_top_text.proofs.Steps.{ended}
use Rattle.cap_top_text.proofs.Runs.{more_sessions}
use Rattle.cap_top_text.proofs.text.push_sessions.Goals as goal

pub sessions-preserved : goal.sessions-preserved
sessions-preserved c =
    let sessions = c.args.sessions.now in
    let traces = c.args.traces.now in
    let turn = zip_turn sessions traces c.sessions.yielded c.into_iter-session-iterator.result c.sessions.session-iterator c.next.new.self c.next.result (cc) (cc) c.sessions.yielded_by (c.in-Some.session, c.in-Some.trace) c.in-Some.is c.next.ensures.steps in
    let next = length_push c.sessions.yielded (c.in-Some.session, c.in-Some.trace) in
    more_sessions c.args.histories.now.all.now c.args.book.now c.sessions.out.items _ _ sessions traces (length c.sessions.yielded) _ c.in-Some.session.now c.in-Some.trace.now next turn c.sessions.invariant (c.in_ok-push_session.ensures ∙ ap (λ done. c.sessions.out.items ++ session_text c.args.histories.now.all.now c.args.book.now c.in-Some.session.now.node done) c.as_slice.ensures)

pub returns : goal.returns
returns c =
    let pairs = zip c.args.sessions.now c.args.traces.now in
    let end = zip_end c.args.sessions.now c.args.traces.now c.sessions.yielded c.into_iter-session-iterator.result c.sessions.session-iterator c.next.new.self c.next.result (cc) (cc) c.sessions.yielded_by c.in-None.is c.next.ensures.steps in
    let all : length pairs ≤ length c.sessions.yielded = omega (arith, end, length-zip c.args.sessions.now c.args.traces.now) in
    ended (sessions_text c.args.histories.now.all.now c.args.book.now) refl c.sessions.out.items _ pairs (length c.sessions.yielded) all c.sessions.invariant
