use Rattle.cap_quiver_paths.specs.Data.{quiver}
use Rattle.cap_quiver_paths.specs.Numbers.{AreJoinsSoFar}
use Rattle.cap_quiver_paths.proofs.numbering.all_joins.Given as goal

abbrev pub invariant-loop-k : goal.invariant-loop-k
invariant-loop-k l = AreJoinsSoFar (quiver 0 l.arrows l.bound) l.paths l.joins.items l.k
