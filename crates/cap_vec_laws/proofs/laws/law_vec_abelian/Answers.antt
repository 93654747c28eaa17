use Rattle.cap_vec_laws.proofs.Abelian.{vec_abelian}
use Rattle.cap_vec_laws.proofs.laws.law_vec_abelian.Goals as goal

pub returns : goal.returns
returns c = vec_abelian
