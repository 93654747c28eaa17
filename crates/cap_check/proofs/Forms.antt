-- What is known of the checked forms of sound scripts.
use Rattle.std.proofs.Common.{sym, subst}
use Rattle.cap_sound.specs.Weights.{AreRanged}
use Rattle.cap_sound.proofs.Weights.{weights}
use Rattle.cap_check.specs.Forms.{FormsAreRanged}

pub forms_ranged : FormsAreRanged
forms_ranged form f = subst (λ c. AreRanged c.prelude) (sym f.formed) (weights f.script f.given f.sound).1
