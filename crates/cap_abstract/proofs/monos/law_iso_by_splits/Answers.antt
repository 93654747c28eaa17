use Rattle.cap_laws.proofs.Isos.{iso-from-splits, iso-splits-mono, iso-splits-epi}
use Rattle.cap_abstract.proofs.monos.law_iso_by_splits.Goals as goal

pub returns : goal.returns
returns g c = λ k. let L = g.met.C.Cat.linear k in record { law = (λ s. iso-from-splits L s.0 s.1, λ i. (iso-splits-mono L i, iso-splits-epi L i)) }
