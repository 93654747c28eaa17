use Rattle.cap_quiver.specs.Rows.{AreArrowsOf}
use Rattle.cap_quiver.proofs.basis.basis_arrows.Given as goal

abbrev pub invariant-loop-b : goal.invariant-loop-b
invariant-loop-b l = AreArrowsOf l.paths l.basis l.arrows.items l.b
