use Rattle.cap_legal.proofs.Longer.{legal-next}
use Rattle.cap_legal.specs.Laws.{frame_of}
use Rattle.cap_legal.proofs.laws.law_next_is_legal.Goals as goal

pub returns : goal.returns
returns g c = λ offer rules objects morphisms. legal-next (frame_of (g.C.Offer.offered offer) rules objects morphisms)
