use Rattle.cap_right_laws.proofs.Rightness.{legal-right}
use Rattle.cap_right_laws.proofs.laws.law_legal_is_right.Goals as goal

pub returns : goal.returns
returns c = legal-right
