use Rattle.std.proofs.Common.{length}
use Rattle.cap_session.proofs.places.+sit_down.Given as goal

abbrev pub decreases-sit_down : goal.decreases-sit_down
decreases-sit_down g l = length l.row.items
