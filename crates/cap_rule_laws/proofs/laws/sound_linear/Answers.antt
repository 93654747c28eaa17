use Rattle.cap_rule_laws.proofs.SoundRules.{all-unmarked-sound}
use Rattle.cap_rule_laws.proofs.laws.sound_linear.Goals as goal

pub returns : goal.returns
returns g c = λ k. all-unmarked-sound (g.met.C.Cat.linear k)
