use Rattle.cap_fitting.proofs.Sound.{sound_where_fits}
use Rattle.cap_fitting.proofs.laws.law_sound_where_fits.Goals as goal

pub returns : goal.returns
returns c = sound_where_fits
