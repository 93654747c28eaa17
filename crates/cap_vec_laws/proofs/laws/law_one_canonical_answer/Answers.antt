use Rattle.cap_vec_laws.proofs.RowEquations.{one_canonical_answer}
use Rattle.cap_vec_laws.proofs.laws.law_one_canonical_answer.Goals as goal

pub returns : goal.returns
returns c = one_canonical_answer
