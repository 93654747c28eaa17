use Rattle.cap_run_laws.proofs.RunsMean.{run-means}
use Rattle.cap_run_laws.proofs.laws.law_run_means.Goals as goal

pub returns : goal.returns
returns g c = λ offer. run-means (g.C.Offer.offered offer) (g.met.C.Offer.plain_ends offer) (g.met.C.Offer.prims_mean offer)
