use Rattle.std.proofs.Common.{◌≡◌, length}
use Rattle.cap_reading.specs.Steps.{many, with_front}
use Rattle.cap_grammar.specs.declared.symbol.Fixed.TheVariants as word
use Rattle.cap_literals.specs.Reading.{is, next_multiple_at}
use Rattle.cap_literals.proofs.combos.more_multiples.Given as goal

abbrev pub invariant-multiples : goal.invariant-multiples
invariant-multiples l = with_front l.terms (many (is word.Plus) next_multiple_at l.rest) ≡ with_front l.fn.terms (many (is word.Plus) next_multiple_at l.symbols)

abbrev pub decreases-multiples : goal.decreases-multiples
decreases-multiples l = length l.rest
