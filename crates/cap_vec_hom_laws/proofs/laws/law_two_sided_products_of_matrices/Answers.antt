use Rattle.cap_vec_hom_laws.proofs.HomLaws.{hom_is_kronecker}
use Rattle.cap_vec_hom_laws.proofs.laws.law_two_sided_products_of_matrices.Goals as goal

pub returns : goal.returns
returns c = λ p t. hom_is_kronecker p t
