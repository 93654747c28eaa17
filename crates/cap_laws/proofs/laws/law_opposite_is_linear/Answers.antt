use Rattle.cap_laws.proofs.Opposite.{opposite-linear}
use Rattle.cap_laws.proofs.laws.law_opposite_is_linear.Goals as goal

pub returns : goal.returns
returns g c = λ k. opposite-linear (g.met.C.Cat.linear k)
