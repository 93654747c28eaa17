use Rattle.cap_laws.proofs.Calculus.{add-negate}
use Rattle.cap_laws.proofs.Differences.{negate-negate, negate-compose, compose-negate}
use Rattle.cap_laws.proofs.laws.law_negation.Goals as goal

pub returns : goal.returns
returns g c = λ k. let L = g.met.C.Cat.linear k in record { sum = λ p. add-negate L p; twice = λ p. negate-negate L p; first = λ p q. negate-compose L p q; second = λ p q. compose-negate L p q }
