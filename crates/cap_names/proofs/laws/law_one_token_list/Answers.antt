use Rattle.cap_names.proofs.Pieces.{one_token_list}
use Rattle.cap_names.proofs.laws.law_one_token_list.Goals as goal

pub returns : goal.returns
returns c = one_token_list
