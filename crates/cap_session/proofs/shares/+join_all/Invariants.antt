use Rattle.std.proofs.Common.{length}
use Rattle.cap_session.proofs.shares.+join_all.Given as goal

abbrev pub decreases-join_all : goal.decreases-join_all
decreases-join_all l = length l.sessions.items
