use Rattle.cap_rule_laws.proofs.SoundFits.{meaning-fits}
use Rattle.cap_rule_laws.proofs.laws.law_meanings_fit.Goals as goal

pub returns : goal.returns
returns g c = λ k. meaning-fits (g.C.Cat.category k)
