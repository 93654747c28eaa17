use Rattle.cap_vec_laws.proofs.RowEquations.{canonical_answers}
use Rattle.cap_vec_laws.proofs.laws.law_canonical_answers.Goals as goal

pub returns : goal.returns
returns c = canonical_answers
