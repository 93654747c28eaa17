use Rattle.cap_laws.proofs.Calculus.{same, back, ◌⟫◌ as join, composed, added, scaled}
use Rattle.cap_laws.proofs.laws.law_congruence_calculus.Goals as goal

pub returns : goal.returns
returns g c = λ k. let L = g.met.C.Cat.linear k in record { same = λ p. same L p; back = λ s. back L s; join = λ s t. join L s t; composed = λ s t. composed L s t; added = λ s t. added L s t; scaled = λ n s. scaled L n s }
