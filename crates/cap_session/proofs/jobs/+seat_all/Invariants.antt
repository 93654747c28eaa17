use Rattle.std.proofs.Common.{length}
use Rattle.cap_session.proofs.jobs.+seat_all.Given as goal

abbrev pub decreases-seat_all : goal.decreases-seat_all
decreases-seat_all g l = length l.jobs.items
