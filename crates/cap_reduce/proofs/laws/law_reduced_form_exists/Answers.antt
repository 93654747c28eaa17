use Rattle.cap_reduce.proofs.ReducedForms.{reduced_form_exists}
use Rattle.cap_reduce.proofs.laws.law_reduced_form_exists.Goals as goal

pub returns : goal.returns
returns c = reduced_form_exists
