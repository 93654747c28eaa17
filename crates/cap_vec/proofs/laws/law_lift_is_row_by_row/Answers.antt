use Rattle.cap_vec_laws.proofs.Members.{lift_of-rows}
use Rattle.cap_vec.proofs.laws.law_lift_is_row_by_row.Goals as goal

pub returns : goal.returns
returns c = lift_of-rows
