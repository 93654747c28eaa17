use Rattle.cap_shares.specs.Shares.{Joins}
use Rattle.cap_shares.proofs.Joining.{Joining}
use Rattle.cap_shares.proofs.rows.join_row.Given as goal

abbrev pub invariant-row : goal.invariant-row
invariant-row l = Joining Joins l.fn.categories l.fn.row.items l.categories l.row.items

abbrev pub decreases-row : goal.decreases-row
decreases-row l = goal.left-row l
