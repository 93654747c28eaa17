use Rattle.cap_quiver_paths.specs.Data.{AreSinglesSoFar}
use Rattle.cap_quiver_paths.proofs.walks.singles.Given as goal

abbrev pub invariant-loop-x : goal.invariant-loop-x
invariant-loop-x l = AreSinglesSoFar l.arrows l.level.items l.x
