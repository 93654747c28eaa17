use Rattle.std.proofs.Common.{◌≡◌, length}
use Rattle.cap_reading.specs.Steps.{many, with_front}
use Rattle.cap_parser.specs.Blocks.{starts_quiver_line, quiver_line_at}
use Rattle.cap_parser.proofs.blocks.more_quiver_lines.Given as goal

abbrev pub invariant-lines : goal.invariant-lines
invariant-lines l = with_front l.lines (many starts_quiver_line quiver_line_at l.rest) ≡ with_front l.fn.lines (many starts_quiver_line quiver_line_at l.symbols)

abbrev pub decreases-lines : goal.decreases-lines
decreases-lines l = length l.rest
