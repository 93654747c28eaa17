use Rattle.cap_quiver_paths.specs.Numbers.{AreUnitNumbersSoFar}
use Rattle.cap_quiver_paths.proofs.numbering.unit_numbers.Given as goal

abbrev pub invariant-loop-x : goal.invariant-loop-x
invariant-loop-x l = AreUnitNumbersSoFar l.paths l.units.items l.x
