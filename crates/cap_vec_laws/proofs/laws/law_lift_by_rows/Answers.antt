use Rattle.cap_vec_laws.proofs.Lifts.{lift_by_rows}
use Rattle.cap_vec_laws.proofs.laws.law_lift_by_rows.Goals as goal

pub returns : goal.returns
returns c = lift_by_rows
