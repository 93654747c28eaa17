use Rattle.cap_alike.proofs.BothWays.{meanings_go}
use Rattle.cap_alike.proofs.laws.law_alike_meanings.Goals as goal

pub returns : goal.returns
returns g c = λ a. meanings_go (g.A.AlikeCategories.pair a)
