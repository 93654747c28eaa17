use Rattle.std.proofs.Common.{◌≡◌, ℕ, ◌<◌, length, get_or}
use Rattle.cap_bench_tables.proofs.cells.Given as goal

abbrev pub invariant-loop-k : goal.invariant-loop-k
invariant-loop-k l = record { long : length l.cells.items ≡ l.count; small : (k : ℕ) → get_or l.cells.items k 0 < l.p }
