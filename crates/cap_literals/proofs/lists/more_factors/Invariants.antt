use Rattle.std.proofs.Common.{◌≡◌, length}
use Rattle.cap_reading.specs.Steps.{many, with_front}
use Rattle.cap_grammar.specs.declared.symbol.Fixed.TheVariants as word
use Rattle.cap_literals.specs.Reading.{is, next_name_at}
use Rattle.cap_literals.proofs.lists.more_factors.Given as goal

abbrev pub invariant-factors : goal.invariant-factors
invariant-factors l = with_front l.names (many (is word.Star) next_name_at l.rest) ≡ with_front l.fn.names (many (is word.Star) next_name_at l.symbols)

abbrev pub decreases-factors : goal.decreases-factors
decreases-factors l = length l.rest
