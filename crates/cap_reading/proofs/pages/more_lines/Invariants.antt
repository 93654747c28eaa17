use Rattle.std.proofs.Common.{◌≡◌, length}
use Rattle.cap_reading.specs.Steps.{with_front, many}
use Rattle.cap_reading.specs.Example.{starts_line, line_at}
use Rattle.cap_reading.proofs.pages.more_lines.Given as goal

abbrev pub invariant-lines : goal.invariant-lines
invariant-lines l = with_front l.lines (many starts_line line_at l.rest) ≡ with_front l.fn.lines (many starts_line line_at l.bytes)

abbrev pub decreases-lines : goal.decreases-lines
decreases-lines l = length l.rest
