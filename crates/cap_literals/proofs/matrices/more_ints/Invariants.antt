use Rattle.std.proofs.Common.{◌≡◌, length}
use Rattle.cap_reading.specs.Steps.{many, with_front}
use Rattle.cap_literals.specs.Reading.{starts_int, int_at}
use Rattle.cap_literals.proofs.matrices.more_ints.Given as goal

abbrev pub invariant-ints : goal.invariant-ints
invariant-ints l = with_front l.ints (many starts_int int_at l.rest) ≡ with_front l.fn.ints (many starts_int int_at l.symbols)

abbrev pub decreases-ints : goal.decreases-ints
decreases-ints l = length l.rest
