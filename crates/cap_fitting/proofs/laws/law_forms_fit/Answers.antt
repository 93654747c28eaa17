use Rattle.cap_fitting.proofs.Fit.{forms_fit}
use Rattle.cap_fitting.proofs.laws.law_forms_fit.Goals as goal

pub returns : goal.returns
returns c = forms_fit
