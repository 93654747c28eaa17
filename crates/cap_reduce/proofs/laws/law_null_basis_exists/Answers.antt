use Rattle.cap_reduce.proofs.ReducedForms.{null_basis_exists}
use Rattle.cap_reduce.proofs.laws.law_null_basis_exists.Goals as goal

pub returns : goal.returns
returns c = null_basis_exists
