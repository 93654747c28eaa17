use Rattle.cap_sound.proofs.Told.{parts_have_places, commands_have_places, sessions_have_places}
use Rattle.cap_sound.proofs.laws.law_places.Goals as goal

pub returns : goal.returns
returns c = record { parts = parts_have_places; commands = commands_have_places; sessions = sessions_have_places }
