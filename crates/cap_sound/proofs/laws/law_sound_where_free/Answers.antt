use Rattle.cap_sound.proofs.Told.{sound_where_free}
use Rattle.cap_sound.proofs.laws.law_sound_where_free.Goals as goal

pub returns : goal.returns
returns c = sound_where_free
