use Rattle.cap_reduce.proofs.ReducedForms.{one_reduced_form}
use Rattle.cap_reduce.proofs.laws.law_one_reduced_form.Goals as goal

pub returns : goal.returns
returns c = one_reduced_form
