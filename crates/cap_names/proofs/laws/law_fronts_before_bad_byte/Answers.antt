use Rattle.cap_names.proofs.Decided.{fronts_before_bad_byte}
use Rattle.cap_names.proofs.laws.law_fronts_before_bad_byte.Goals as goal

pub returns : goal.returns
returns c = fronts_before_bad_byte
