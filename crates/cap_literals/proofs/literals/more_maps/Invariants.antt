use Rattle.std.proofs.Common.{◌≡◌, length}
use Rattle.cap_reading.specs.Steps.{many, with_front}
use Rattle.cap_literals.specs.Reading.{is_name, map_at}
use Rattle.cap_literals.proofs.literals.more_maps.Given as goal

abbrev pub invariant-maps : goal.invariant-maps
invariant-maps l = with_front l.maps (many is_name map_at l.rest) ≡ with_front l.fn.maps (many is_name map_at l.symbols)

abbrev pub decreases-maps : goal.decreases-maps
decreases-maps l = length l.rest
