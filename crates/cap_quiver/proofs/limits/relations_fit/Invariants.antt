use Rattle.std.proofs.Common.{ℕ, ◌<◌}
use Rattle.cap_quiver_paths.specs.Relations.{relations_of}
use Rattle.cap_quiver.specs.Limits.{FitsRelation}
use Rattle.cap_quiver.proofs.limits.relations_fit.Given as goal

abbrev pub invariant-loop-r : goal.invariant-loop-r
invariant-loop-r l = (i : ℕ) → i < l.r → FitsRelation l.fn.field ((relations_of l.relations).terms i)
