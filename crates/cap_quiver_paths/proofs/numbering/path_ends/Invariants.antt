use Rattle.cap_quiver_paths.specs.Data.{quiver}
use Rattle.cap_quiver_paths.specs.Numbers.{AreEndsSoFar}
use Rattle.cap_quiver_paths.proofs.numbering.path_ends.Given as goal

abbrev pub invariant-loop-a : goal.invariant-loop-a
invariant-loop-a l = AreEndsSoFar (quiver 0 l.arrows 0) l.paths l.ends.items l.a
