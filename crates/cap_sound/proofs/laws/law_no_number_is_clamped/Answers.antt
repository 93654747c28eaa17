use Rattle.cap_sound.proofs.Sound.{no_number_is_clamped}
use Rattle.cap_sound.proofs.laws.law_no_number_is_clamped.Goals as goal

pub returns : goal.returns
returns c = no_number_is_clamped
