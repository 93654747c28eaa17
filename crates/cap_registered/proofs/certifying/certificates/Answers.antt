use Rattle.std.proofs.Common.{sym, subst}
use Rattle.cap_sound.specs.Weights.{AreRanged}
use Rattle.cap_check.proofs.Forms.{forms_ranged}
use Rattle.cap_registered.proofs.certifying.certificates.Goals as goal

pub certificates_of-requires : goal.certificates_of-requires
certificates_of-requires c = subst AreRanged (sym c.prelude.ensures.value) (forms_ranged _ c.prelude.ensures.sound)
