use Rattle.cap_laws.proofs.Unique.{mono-cancels, mono-from-cancels}
use Rattle.cap_laws.proofs.laws.law_mono_cancels.Goals as goal

pub returns : goal.returns
returns g c = λ k. let L = g.met.C.Cat.linear k in record { cancels = λ M V W s. mono-cancels L M V W s; mono = λ F h. mono-from-cancels L F h }
