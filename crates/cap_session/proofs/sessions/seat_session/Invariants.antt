use Rattle.std.proofs.Common.{◌≡◌, ◌++◌, take, drop}
use Rattle.cap_traces.specs.Runs.{seated}
use Rattle.cap_session.proofs.sessions.seat_session.Given as goal

-- the seats so far are the session's, and the others as they were
abbrev pub invariant-seats : goal.invariant-seats
invariant-seats g l = l.seats ≡ seated l.session (take l.seat-index l.fn.seats) ++ drop l.seat-index l.fn.seats
