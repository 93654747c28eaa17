use Rattle.cap_settle.proofs.Settling.{settled_fits}
use Rattle.cap_settle.proofs.laws.law_settled_fits.Goals as goal

pub returns : goal.returns
returns g c = settled_fits
