use Rattle.cap_names.proofs.Decided.{tokens_or_bad_byte}
use Rattle.cap_names.proofs.laws.law_tokens_or_bad_byte.Goals as goal

pub returns : goal.returns
returns c = tokens_or_bad_byte
