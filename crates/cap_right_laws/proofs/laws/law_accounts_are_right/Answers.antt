use Rattle.cap_right_laws.proofs.Rightness.{accounts-right}
use Rattle.cap_right_laws.proofs.laws.law_accounts_are_right.Goals as goal

pub returns : goal.returns
returns c = accounts-right
