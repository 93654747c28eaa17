use Rattle.cap_session.proofs.Sitting.{Sitting}
use Rattle.cap_session.proofs.sessions.run_one_by_one.Given as goal

abbrev pub invariant-sessions : goal.invariant-sessions
invariant-sessions g l = Sitting l.fn.course l.sessions l.fn.traces.items l.part-index l.course l.traces.items
