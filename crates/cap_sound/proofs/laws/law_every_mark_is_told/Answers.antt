use Rattle.cap_sound.proofs.Told.{every_mark_is_told}
use Rattle.cap_sound.proofs.laws.law_every_mark_is_told.Goals as goal

pub returns : goal.returns
returns c = every_mark_is_told
