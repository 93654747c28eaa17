use Rattle.cap_session.proofs.SharedOut.{Made}
use Rattle.cap_session.proofs.shares.make_jobs.Given as goal

abbrev pub invariant-sessions : goal.invariant-sessions
invariant-sessions l = Made l.fn.categories l.sessions l.part-index l.categories l.jobs.items
