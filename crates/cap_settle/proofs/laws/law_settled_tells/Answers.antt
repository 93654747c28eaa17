use Rattle.cap_settle.proofs.Settling.{settled_tells}
use Rattle.cap_settle.proofs.laws.law_settled_tells.Goals as goal

pub returns : goal.returns
returns g c = settled_tells
