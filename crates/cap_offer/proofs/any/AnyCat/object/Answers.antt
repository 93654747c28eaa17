use Rattle.cap_offer.specs.Literals.{dimension_of}
use Rattle.cap_offer.proofs.Offers.{dimension-object}
use Rattle.cap_offer.proofs.any.AnyCat.object.Goals as goal

pub returns-clause-object : goal.returns-clause-object
returns-clause-object c = dimension-object c.args.self.now (dimension_of c.args.lit.now) c.read_dimension.result c.read_dimension.ensures
