use Rattle.cap_quiver_laws.proofs.Valid.{quotient-valid}
use Rattle.cap_quiver_laws.proofs.laws.law_quotient_is_table.Goals as goal

pub returns : goal.returns
returns c = λ n A t bs T few short K two Q. quotient-valid n A t bs T few short K two Q
