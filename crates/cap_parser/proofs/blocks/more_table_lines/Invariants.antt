use Rattle.std.proofs.Common.{◌≡◌, length}
use Rattle.cap_reading.specs.Steps.{many, with_front}
use Rattle.cap_parser.specs.Blocks.{starts_table_line, table_line_at}
use Rattle.cap_parser.proofs.blocks.more_table_lines.Given as goal

abbrev pub invariant-lines : goal.invariant-lines
invariant-lines l = with_front l.lines (many starts_table_line table_line_at l.rest) ≡ with_front l.fn.lines (many starts_table_line table_line_at l.symbols)

abbrev pub decreases-lines : goal.decreases-lines
decreases-lines l = length l.rest
