use Rattle.cap_laws.proofs.Calculus.{equal-from-subtract, subtract-from-equal}
use Rattle.cap_laws.proofs.laws.law_difference_is_zero.Goals as goal

pub returns : goal.returns
returns g c = λ k. let L = g.met.C.Cat.linear k in record { law = λ p q. (equal-from-subtract L p q, subtract-from-equal L) }
