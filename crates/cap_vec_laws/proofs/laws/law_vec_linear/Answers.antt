use Rattle.cap_vec_laws.proofs.Linear.{vec_linear}
use Rattle.cap_vec_laws.proofs.laws.law_vec_linear.Goals as goal

pub returns : goal.returns
returns c = vec_linear
