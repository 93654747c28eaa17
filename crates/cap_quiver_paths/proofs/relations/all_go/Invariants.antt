use Rattle.std.proofs.Common.{ℕ, ◌<◌, [], get_or}
use Rattle.cap_quiver_laws.specs.Ideal.{IsTermPath}
use Rattle.cap_quiver_paths.specs.Data.{quiver}
use Rattle.cap_quiver_paths.proofs.relations.all_go.Given as goal

abbrev pub invariant-loop-k : goal.invariant-loop-k
invariant-loop-k l = (k : ℕ) → k < l.k → IsTermPath (quiver 0 l.arrows 0) l.x l.y (get_or l.terms k (0, [])).1
