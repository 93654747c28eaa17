use Rattle.std.proofs.Common.{◌≡◌, ℕ, ◌<◌, cond, ltb, get_or}
use Rattle.cap_reduce.specs.Flat.{cell}
use Rattle.cap_reduce.proofs.solving.read_solution.Given as goal

abbrev pub invariant-loop-i : goal.invariant-loop-i
invariant-loop-i l = (k : ℕ) → k < l.i → get_or l.x k 0 ≡ cond (ltb (get_or l.place k 0) l.rank) (cell l.table l.width (get_or l.place k 0) l.column) 0
