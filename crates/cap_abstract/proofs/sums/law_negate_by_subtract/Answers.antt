use Rattle.cap_abstract.proofs.Additions.{zero-subtract}
use Rattle.cap_abstract.proofs.sums.law_negate_by_subtract.Goals as goal

pub returns : goal.returns
returns g c = λ k. let L = g.met.C.Cat.linear k in record { law = zero-subtract L }
