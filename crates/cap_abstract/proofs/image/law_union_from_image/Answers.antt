use Rattle.cap_abstract.proofs.Images.{union-from-image}
use Rattle.cap_abstract.proofs.image.law_union_from_image.Goals as goal

pub returns : goal.returns
returns g c = λ k. let L = g.met.C.Cat.linear k in record { law = union-from-image L }
