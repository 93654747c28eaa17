use Rattle.std.proofs.Common.{◌≡◌, length}
use Rattle.cap_reading.specs.Steps.{with_front, many}
use Rattle.cap_reading.specs.Example.{is, next_part_at}
use Rattle.cap_reading.proofs.example.more_parts.Given as goal

abbrev pub invariant-parts : goal.invariant-parts
invariant-parts l = with_front l.parts (many (is 44) next_part_at l.rest) ≡ with_front l.fn.parts (many (is 44) next_part_at l.bytes)

abbrev pub decreases-parts : goal.decreases-parts
decreases-parts l = length l.rest
