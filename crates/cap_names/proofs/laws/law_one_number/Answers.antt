use Rattle.cap_names.proofs.OperationNames.{one_number}
use Rattle.cap_names.proofs.laws.law_one_number.Goals as goal

pub returns : goal.returns
returns c = one_number
