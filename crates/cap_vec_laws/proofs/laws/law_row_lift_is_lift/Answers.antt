use Rattle.cap_vec_laws.proofs.RowLifts.{row_lift_is_lift}
use Rattle.cap_vec_laws.proofs.laws.law_row_lift_is_lift.Goals as goal

pub returns : goal.returns
returns c = row_lift_is_lift
