use Rattle.std.proofs.Common.{◌≡◌, ℕ, ◌<◌, Some, slice_get}
use Rattle.cap_list_board.specs.declared.entries.Entry.{Entry}
use Rattle.cap_list_board.proofs.places.place_of.Given as goal

abbrev pub invariant-loop-i : goal.invariant-loop-i
invariant-loop-i g l = (k : ℕ) (e : Entry g.row.M.Denot) → k < l.i → slice_get l.entries k ≡ Some e → e.key ≡ l.key → ⊥
