use Rattle.cap_rule_laws.proofs.SoundRules.{all-sound}
use Rattle.cap_rule_laws.proofs.laws.sound_abelian.Goals as goal

pub returns : goal.returns
returns g c = λ k. all-sound (g.met.C.Cat.linear k) (g.met.C.Abelian.abelian k)
