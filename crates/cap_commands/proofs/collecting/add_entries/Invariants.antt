use Rattle.std.proofs.Common.{◌≡◌, length, reverse}
use Rattle.cap_commands.proofs.OwnEntries.{with_left}
use Rattle.cap_commands.proofs.collecting.add_entries.Given as goal

-- with those that are left, the entries are all
abbrev pub invariant-loop-one : goal.invariant-loop-one
invariant-loop-one l = with_left l.number l.events.items l.tries.items ≡ with_left l.number l.fn.events.items (reverse l.fn.tries.items)

abbrev pub decreases-loop-one : goal.decreases-loop-one
decreases-loop-one l = length l.tries.items
