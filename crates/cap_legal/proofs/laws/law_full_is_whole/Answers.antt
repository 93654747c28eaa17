use Rattle.cap_legal.proofs.Longer.{full-whole}
use Rattle.cap_legal.specs.Laws.{frame_of}
use Rattle.cap_legal.proofs.laws.law_full_is_whole.Goals as goal

pub returns : goal.returns
returns g c = λ offer rules objects morphisms. full-whole (frame_of (g.C.Offer.offered offer) rules objects morphisms)
