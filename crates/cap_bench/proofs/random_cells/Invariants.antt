use Rattle.std.proofs.Common.{◌≡◌, ℕ, ◌<◌, length, get_or}
use Rattle.cap_bench.proofs.random_cells.Given as goal

abbrev pub invariant-loop-i : goal.invariant-loop-i
invariant-loop-i l = record { long : length l.v.items ≡ l.count; small : (k : ℕ) → get_or l.v.items k 0 < l.p }
