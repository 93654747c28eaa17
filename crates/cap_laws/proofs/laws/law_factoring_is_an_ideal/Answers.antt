use Rattle.cap_laws.proofs.Factor.{through-zero, through-add, through-scale, through-before, through-after}
use Rattle.cap_laws.proofs.laws.law_factoring_is_an_ideal.Goals as goal

pub returns : goal.returns
returns g c = λ k. let L = g.met.C.Cat.linear k in record { zero = λ o p. through-zero L o p; add = λ s t. through-add L s t; scale = λ n t. through-scale L n t; before = λ p t. through-before L p t; after = λ t q s. through-after L t q s }
