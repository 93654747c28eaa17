use Rattle.cap_alike.proofs.BothWays.{structure_goes}
use Rattle.cap_alike.proofs.laws.law_alike_structure.Goals as goal

pub returns : goal.returns
returns g c = λ a. structure_goes (g.A.AlikeCategories.pair a)
