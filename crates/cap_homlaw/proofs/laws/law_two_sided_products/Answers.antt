use Rattle.cap_homlaw.proofs.TwoSided.{two-sided-products}
use Rattle.cap_homlaw.proofs.laws.law_two_sided_products.Goals as goal

pub returns : goal.returns
returns g c = λ k. two-sided-products (g.met.C.Cat.linear k) (g.met.C.HomFp.is_hom k)
