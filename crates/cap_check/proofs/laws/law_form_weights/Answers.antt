use Rattle.cap_check.proofs.Forms.{forms_ranged}
use Rattle.cap_check.proofs.laws.law_form_weights.Goals as goal

pub returns : goal.returns
returns c = forms_ranged
