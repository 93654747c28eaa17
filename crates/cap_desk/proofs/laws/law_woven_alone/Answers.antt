use Rattle.cap_desk.proofs.Weaving.{woven-alone}
use Rattle.cap_desk.proofs.laws.law_woven_alone.Goals as goal

pub returns : goal.returns
returns g c = woven-alone
