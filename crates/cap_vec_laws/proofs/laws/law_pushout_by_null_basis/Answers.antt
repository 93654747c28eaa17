use Rattle.cap_vec_laws.proofs.Pullback.{pushout_by_null_basis}
use Rattle.cap_vec_laws.proofs.laws.law_pushout_by_null_basis.Goals as goal

pub returns : goal.returns
returns c = pushout_by_null_basis
