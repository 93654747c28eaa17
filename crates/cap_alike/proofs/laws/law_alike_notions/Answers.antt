use Rattle.cap_alike.proofs.BothWays.{notions_go}
use Rattle.cap_alike.proofs.laws.law_alike_notions.Goals as goal

pub returns : goal.returns
returns g c = λ a. notions_go (g.A.AlikeCategories.pair a)
