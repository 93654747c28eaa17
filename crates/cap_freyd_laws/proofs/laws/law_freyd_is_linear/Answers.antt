use Rattle.cap_freyd_laws.proofs.Linear.{freyd-linear}
use Rattle.cap_freyd_laws.proofs.laws.law_freyd_is_linear.Goals as goal

pub returns : goal.returns
returns g c = λ k. freyd-linear (g.met.C.Cat.linear k)
