use Rattle.cap_quiver_paths.specs.Data.{quiver}
use Rattle.cap_quiver_paths.specs.Relations.{relations_of}
use Rattle.cap_quiver_paths.specs.TermNumbers.{AreAllNumbersSoFar}
use Rattle.cap_quiver_paths.proofs.terms.term_numbers.Given as goal

abbrev pub invariant-loop-r : goal.invariant-loop-r
invariant-loop-r l = AreAllNumbersSoFar (quiver 0 l.arrows l.bound) l.paths (relations_of l.relations).terms l.numbers.items l.r
