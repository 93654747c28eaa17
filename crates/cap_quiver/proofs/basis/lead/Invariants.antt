use Rattle.std.proofs.Common.{◌≡◌, ℕ, ◌<◌}
use Rattle.cap_matrix.specs.Grid.{entry}
use Rattle.cap_quiver.proofs.basis.lead.Given as goal

abbrev pub invariant-loop-q : goal.invariant-loop-q
invariant-loop-q l = (j : ℕ) → j < l.q → entry l.rows.entries l.f j ≡ 0
