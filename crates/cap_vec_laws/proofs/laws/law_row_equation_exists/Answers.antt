use Rattle.cap_vec_laws.proofs.RowEquations.{row_equation_exists}
use Rattle.cap_vec_laws.proofs.laws.law_row_equation_exists.Goals as goal

pub returns : goal.returns
returns c = row_equation_exists
