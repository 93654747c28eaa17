use Rattle.cap_abstract.proofs.Cancelling.{inverse-from-section, section-of-inverse}
use Rattle.cap_laws.proofs.Opposite.{opposite-linear}
use Rattle.cap_abstract.proofs.monos.law_inverse_by_section.Goals as goal

pub returns-clause-law : goal.returns-clause-law
returns-clause-law g c = λ k. let L = g.met.C.Cat.linear k in record { law = λ F S. (inverse-from-section L S, λ I. I.left); each = λ F I S. inverse-from-section L S (section-of-inverse L F I S) }

pub returns-clause-dual : goal.returns-clause-dual
returns-clause-dual g c = λ k. let L = opposite-linear (g.met.C.Cat.linear k) in record { law = λ F S. (inverse-from-section L S, λ I. I.left); each = λ F I S. inverse-from-section L S (section-of-inverse L F I S) }
