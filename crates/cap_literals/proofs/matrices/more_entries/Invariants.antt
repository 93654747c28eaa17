use Rattle.std.proofs.Common.{◌≡◌, length}
use Rattle.cap_reading.specs.Steps.{many, with_front}
use Rattle.cap_literals.specs.Reading.{starts_entry, entry_at}
use Rattle.cap_literals.proofs.matrices.more_entries.Given as goal

abbrev pub invariant-entries : goal.invariant-entries
invariant-entries l = with_front l.row (many starts_entry entry_at l.rest) ≡ with_front l.fn.row (many starts_entry entry_at l.symbols)

abbrev pub decreases-entries : goal.decreases-entries
decreases-entries l = length l.rest
