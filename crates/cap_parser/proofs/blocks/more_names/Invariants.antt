use Rattle.std.proofs.Common.{◌≡◌, length}
use Rattle.cap_reading.specs.Steps.{many, with_front}
use Rattle.cap_literals.specs.Reading.{is_name, name_at}
use Rattle.cap_parser.proofs.blocks.more_names.Given as goal

abbrev pub invariant-names : goal.invariant-names
invariant-names l = with_front l.names (many is_name name_at l.rest) ≡ with_front l.fn.names (many is_name name_at l.symbols)

abbrev pub decreases-names : goal.decreases-names
decreases-names l = length l.rest
