use Rattle.std.proofs.Common.{◌≡◌, ◌++◌, take}
use Rattle.cap_seat.proofs.memory.push_copies.Given as goal

-- copies of those that came stand behind the others
abbrev pub invariant-loop-pair : goal.invariant-loop-pair
invariant-loop-pair g l = l.copies.items ≡ l.fn.copies.items ++ take l.pair-index l.told
