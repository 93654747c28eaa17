use Rattle.std.proofs.Common.{below_more, refl}
use Rattle.cap_cert.proofs.checker.first_false.Goals as goal

pub places-preserved : goal.places-preserved
places-preserved c = below_more _ _ c.places.invariant (c.if-not-line_holds.ensures.0 refl)
