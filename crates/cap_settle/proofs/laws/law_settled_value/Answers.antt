use Rattle.cap_settle.proofs.Settling.{settled_value}
use Rattle.cap_settle.proofs.laws.law_settled_value.Goals as goal

pub returns : goal.returns
returns g c = settled_value
