use Rattle.std.proofs.Common.{◌≡◌, ℕ, ◌+◌, ◌<◌, length, get_or, None}
use Rattle.cap_desk.proofs.ledger.offered_by.Given as goal

abbrev pub invariant-loop-op : goal.invariant-loop-op
invariant-loop-op g l = (length l.weights ≡ 44) × ((k : ℕ) → k < l.op → get_or l.weights k None ≡ (g.C.Offer.offered l.offer).weight (k + 1))
