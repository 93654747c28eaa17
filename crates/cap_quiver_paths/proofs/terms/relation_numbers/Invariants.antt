use Rattle.cap_quiver_paths.specs.Data.{quiver}
use Rattle.cap_quiver_paths.specs.TermNumbers.{AreTermNumbersSoFar}
use Rattle.cap_quiver_paths.proofs.terms.relation_numbers.Given as goal

abbrev pub invariant-loop-k : goal.invariant-loop-k
invariant-loop-k l = AreTermNumbersSoFar (quiver 0 l.arrows l.bound) l.paths l.terms l.numbers.items l.k
