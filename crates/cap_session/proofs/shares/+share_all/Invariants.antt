use Rattle.std.proofs.Common.{length}
use Rattle.cap_session.proofs.shares.+share_all.Given as goal

abbrev pub decreases-share_all : goal.decreases-share_all
decreases-share_all g l = length l.seats.items
