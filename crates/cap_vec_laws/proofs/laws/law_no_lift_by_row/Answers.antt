use Rattle.cap_vec_laws.proofs.Lifts.{no_lift_by_row}
use Rattle.cap_vec_laws.proofs.laws.law_no_lift_by_row.Goals as goal

pub returns : goal.returns
returns c = no_lift_by_row
