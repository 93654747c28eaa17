use Rattle.cap_laws.proofs.Calculus.{compose-subtract, subtract-compose}
use Rattle.cap_laws.proofs.laws.law_differences_compose.Goals as goal

pub returns : goal.returns
returns g c = λ k. let L = g.met.C.Cat.linear k in record { left = λ u p q. compose-subtract L u p q; right = λ p q u. subtract-compose L p q u }
