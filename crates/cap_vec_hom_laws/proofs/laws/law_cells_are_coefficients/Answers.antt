use Rattle.cap_vec_hom_laws.proofs.HomLaws.{vec_has_hom}
use Rattle.cap_vec_hom_laws.proofs.laws.law_cells_are_coefficients.Goals as goal

pub returns : goal.returns
returns c = λ p t. vec_has_hom p t
