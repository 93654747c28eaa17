use Rattle.cap_laws.proofs.Calculus.{compose-zero, zero-compose}
use Rattle.cap_laws.proofs.laws.law_zero_composes.Goals as goal

pub returns : goal.returns
returns g c = λ k. let L = g.met.C.Cat.linear k in record { right = λ p o. compose-zero L p o; left = λ o p. zero-compose L o p }
