use Rattle.cap_sound.proofs.Sound.{dimensions_are_ranged}
use Rattle.cap_sound.proofs.laws.law_dimensions.Goals as goal

pub returns : goal.returns
returns c = dimensions_are_ranged
