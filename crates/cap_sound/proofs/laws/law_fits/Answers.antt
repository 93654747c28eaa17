use Rattle.cap_sound.proofs.Fit.{all_fits}
use Rattle.cap_sound.proofs.laws.law_fits.Goals as goal

pub returns : goal.returns
returns c = all_fits
