use Rattle.std.proofs.Common.{◌≡◌, length}
use Rattle.cap_reading.specs.Steps.{many, with_front}
use Rattle.cap_literals.specs.Reading.{is_number, number_at}
use Rattle.cap_literals.proofs.literals.more_numbers.Given as goal

abbrev pub invariant-numbers : goal.invariant-numbers
invariant-numbers l = with_front l.numbers (many is_number number_at l.rest) ≡ with_front l.fn.numbers (many is_number number_at l.symbols)

abbrev pub decreases-numbers : goal.decreases-numbers
decreases-numbers l = length l.rest
