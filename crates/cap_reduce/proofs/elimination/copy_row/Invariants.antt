use Rattle.std.proofs.Common.{◌≡◌, ℕ, ◌<◌, get_or}
use Rattle.cap_reduce.specs.Flat.{cell}
use Rattle.cap_reduce.proofs.elimination.copy_row.Given as goal

abbrev pub invariant-loop-c : goal.invariant-loop-c
invariant-loop-c l = (q : ℕ) → q < l.c → get_or l.target q 0 ≡ cell l.cells l.cols l.row q
