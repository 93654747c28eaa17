use Rattle.std.proofs.Common.{◌≡◌, ℕ, ◌<◌, ◌≤◌}
use Rattle.cap_reduce.specs.Flat.{cell}
use Rattle.cap_reduce.proofs.elimination.pivot_row.Given as goal

abbrev pub invariant-loop-i : goal.invariant-loop-i
invariant-loop-i l = (k : ℕ) → l.from ≤ k → k < l.i → cell l.cells l.cols k l.col ≡ 0
