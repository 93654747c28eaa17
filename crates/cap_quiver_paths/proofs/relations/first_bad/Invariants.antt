use Rattle.std.proofs.Common.{ℕ, ◌<◌}
use Rattle.cap_quiver_laws.specs.Ideal.{IsRelation}
use Rattle.cap_quiver_paths.specs.Data.{quiver}
use Rattle.cap_quiver_paths.specs.Relations.{relations_of}
use Rattle.cap_quiver_paths.proofs.relations.first_bad.Given as goal

abbrev pub invariant-loop-r : goal.invariant-loop-r
invariant-loop-r l = (r : ℕ) → r < l.r → IsRelation (quiver 0 l.arrows 0) (relations_of l.relations) r
