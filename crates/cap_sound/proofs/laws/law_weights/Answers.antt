use Rattle.cap_sound.proofs.Weights.{weights}
use Rattle.cap_sound.proofs.laws.law_weights.Goals as goal

pub returns : goal.returns
returns c = weights
