use Rattle.std.proofs.Common.{◌≡◌, length}
use Rattle.cap_reading.specs.Steps.{many, with_front}
use Rattle.cap_lines.specs.Marks.{marks}
use Rattle.cap_parser.specs.Blocks.{starts_part}
use Rattle.cap_parser.specs.Scripts.{mark_starts, item_at}
use Rattle.cap_parser.proofs.scripts.items_of.Given as goal

abbrev pub invariant-nodes : goal.invariant-nodes
invariant-nodes l = record {
  read : with_front l.items (many (mark_starts starts_part) item_at (marks l.rest l.others)) ≡ many (mark_starts starts_part) item_at (marks l.symbols l.places);
  lengths : length l.rest ≡ length l.others;
}

abbrev pub decreases-nodes : goal.decreases-nodes
decreases-nodes l = length l.rest
