use Rattle.std.proofs.Common.{◌≡◌, ℕ, ◌+◌, ◌<◌, Some, None, IsSome}
use Rattle.std.specs.List.{slice_index_or}
use Rattle.cap_list_board.proofs.offered.all_offered.Given as goal

abbrev pub invariant-loop-op : goal.invariant-loop-op
invariant-loop-op g l = (k n : ℕ) → k < l.op → slice_index_or l.weights k None ≡ Some n → IsSome ((g.C.Offer.offered l.offer).weight (k + 1))
