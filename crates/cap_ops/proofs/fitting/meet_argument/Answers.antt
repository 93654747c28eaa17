use Rattle.std.proofs.Common.{◌∷◌}
use Rattle.cap_ops.specs.Mismatches.{place}
use Rattle.cap_ops.proofs.fitting.meet_argument.Goals as goal

pub returns-in-Ok-clause-scans : goal.returns-in-Ok-clause-scans
returns-in-Ok-clause-scans g c = λ rest. rw (c.in-Morphism-Mor.is-0, c.in-Morphism-Mor.is-1, c.in-Ok.ensures.scans (place c.in-Morphism-Mor.ends.tgt c.in-Morphism-Mor.arrow.tgt ∷ rest)) (c.meet-in-Ok.ensures.scans rest)

pub returns-in-Err-clause-scans : goal.returns-in-Err-clause-scans
returns-in-Err-clause-scans g c = λ rest. rw (c.in-Morphism-Mor.is-0, c.in-Morphism-Mor.is-1) (c.in-Err.ensures.scans (place c.in-Morphism-Mor.ends.tgt c.in-Morphism-Mor.arrow.tgt ∷ rest))
