use Rattle.cap_names.proofs.Pieces.{one_bad_byte}
use Rattle.cap_names.proofs.laws.law_one_bad_byte.Goals as goal

pub returns : goal.returns
returns c = one_bad_byte
