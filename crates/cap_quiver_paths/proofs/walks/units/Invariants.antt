use Rattle.cap_quiver_paths.specs.Data.{AreUnitsSoFar}
use Rattle.cap_quiver_paths.proofs.walks.units.Given as goal

abbrev pub invariant-loop-start : goal.invariant-loop-start
invariant-loop-start l = AreUnitsSoFar l.level.items l.start
