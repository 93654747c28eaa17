use Rattle.cap_abstract.proofs.Additions.{subtract-negated}
use Rattle.cap_abstract.proofs.sums.law_add_by_subtract.Goals as goal

pub returns : goal.returns
returns g c = λ k. let L = g.met.C.Cat.linear k in record { law = subtract-negated L }
