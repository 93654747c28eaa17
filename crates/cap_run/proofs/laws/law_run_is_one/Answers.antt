use Rattle.cap_run.proofs.Ones.{run-is-one}
use Rattle.cap_run.proofs.laws.law_run_is_one.Goals as goal

pub returns : goal.returns
returns g c = λ offer. run-is-one (g.C.Offer.offered offer) (g.met.C.Offer.one_outcome offer)
