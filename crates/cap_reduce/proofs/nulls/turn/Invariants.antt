use Rattle.std.proofs.Common.{◌≡◌, ℕ, ◌-◌, ◌<◌}
use Rattle.cap_reduce.specs.Flat.{cell}
use Rattle.cap_reduce.proofs.nulls.turn.Given as goal

abbrev pub invariant-loop-i : goal.invariant-loop-i
invariant-loop-i l = (k c : ℕ) → k < l.i → c < l.rows → cell l.turned l.rows k c ≡ cell l.cells l.cols (l.rows - 1 - c) k
