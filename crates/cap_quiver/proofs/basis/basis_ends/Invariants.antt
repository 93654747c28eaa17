use Rattle.cap_quiver_paths.specs.Read.{numbers_in}
use Rattle.cap_quiver.specs.Rows.{AreEndsOf}
use Rattle.cap_quiver.proofs.basis.basis_ends.Given as goal

abbrev pub invariant-loop-b : goal.invariant-loop-b
invariant-loop-b l = AreEndsOf (numbers_in l.numbers) l.basis l.ends.items l.b
