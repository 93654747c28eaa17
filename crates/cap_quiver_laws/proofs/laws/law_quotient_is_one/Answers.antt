use Rattle.cap_quiver_laws.proofs.OneQuotient.{quotient-one}
use Rattle.cap_quiver_laws.proofs.laws.law_quotient_is_one.Goals as goal

pub returns : goal.returns
returns c = λ n A t bs cs T U e Q P. quotient-one n A t bs cs T U e Q P
