use Rattle.cap_laws.proofs.Tables.{element-products}
use Rattle.cap_laws.proofs.laws.law_basis_products.Goals as goal

pub returns : goal.returns
returns g c = λ k. element-products (g.T.Table.table k) (g.met.T.Table.valid k)
