use Rattle.cap_abstract.proofs.Cancelling.{iso-from-mono-epi}
use Rattle.cap_laws.proofs.Isos.{iso-mono, iso-epi}
use Rattle.cap_abstract.proofs.monos.law_iso_by_mono_and_epi.Goals as goal

pub returns : goal.returns
returns g c = λ k. let L = g.met.C.Cat.linear k in let A = g.met.C.Abelian.abelian k in record { law = (λ s. iso-from-mono-epi L A s.0 s.1, λ i. (iso-mono L i, iso-epi L i)) }
