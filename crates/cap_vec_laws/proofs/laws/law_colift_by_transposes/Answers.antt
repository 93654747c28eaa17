use Rattle.cap_vec_laws.proofs.Cokernels.{colift_by_transposes}
use Rattle.cap_vec_laws.proofs.laws.law_colift_by_transposes.Goals as goal

pub returns : goal.returns
returns c = colift_by_transposes
