use Rattle.cap_vec_laws.proofs.RowLifts.{row_lift_exists}
use Rattle.cap_vec_laws.proofs.laws.law_row_lift_exists.Goals as goal

pub returns : goal.returns
returns c = row_lift_exists
