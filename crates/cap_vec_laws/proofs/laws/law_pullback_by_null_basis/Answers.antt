use Rattle.cap_vec_laws.proofs.Pullback.{pullback_by_null_basis}
use Rattle.cap_vec_laws.proofs.laws.law_pullback_by_null_basis.Goals as goal

pub returns : goal.returns
returns c = pullback_by_null_basis
