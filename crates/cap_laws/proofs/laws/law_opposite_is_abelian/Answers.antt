use Rattle.cap_laws.proofs.Opposite.{opposite-abelian}
use Rattle.cap_laws.proofs.laws.law_opposite_is_abelian.Goals as goal

pub returns : goal.returns
returns g c = λ k. opposite-abelian (g.met.C.Abelian.abelian k)
