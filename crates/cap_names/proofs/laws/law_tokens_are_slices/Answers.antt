use Rattle.cap_names.proofs.Slices.{tokens_are_slices}
use Rattle.cap_names.proofs.laws.law_tokens_are_slices.Goals as goal

pub returns : goal.returns
returns c = tokens_are_slices
