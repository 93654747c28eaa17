use Rattle.cap_addclosure.proofs.Units.{own-equal}
use Rattle.cap_addclosure.proofs.category.AddCatCat.identity.Goals as goal

pub diagonal-requires-clause-equal : goal.diagonal-requires-clause-equal
diagonal-requires-clause-equal g c = λ i j hi hj e. own-equal c.args.a.now i j e
