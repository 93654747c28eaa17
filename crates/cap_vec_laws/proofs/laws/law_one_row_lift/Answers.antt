use Rattle.cap_vec_laws.proofs.RowLifts.{one_row_lift}
use Rattle.cap_vec_laws.proofs.laws.law_one_row_lift.Goals as goal

pub returns : goal.returns
returns c = one_row_lift
