use Rattle.std.proofs.Common.{◌≡◌, ℕ, ◌<◌, ◌≤◌, get_or}
use Rattle.cap_lincat.proofs.kinds.first_entry.Given as goal

abbrev pub invariant-loop-k : goal.invariant-loop-k
invariant-loop-k l = (k : ℕ) → l.fn.from ≤ k → k < l.k → get_or l.row k 0 ≡ 0
