use Rattle.cap_fitting.proofs.Literals.{literals_fit}
use Rattle.cap_fitting.proofs.laws.law_literals_fit.Goals as goal

pub returns : goal.returns
returns c = literals_fit
