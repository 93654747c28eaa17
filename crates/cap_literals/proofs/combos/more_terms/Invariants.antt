use Rattle.std.proofs.Common.{◌≡◌, length}
use Rattle.cap_reading.specs.Steps.{many, with_front}
use Rattle.cap_grammar.specs.declared.symbol.Fixed.TheVariants as word
use Rattle.cap_literals.specs.Reading.{is, next_term_at}
use Rattle.cap_literals.proofs.combos.more_terms.Given as goal

abbrev pub invariant-terms : goal.invariant-terms
invariant-terms l = with_front l.terms (many (is word.Plus) next_term_at l.rest) ≡ with_front l.fn.terms (many (is word.Plus) next_term_at l.symbols)

abbrev pub decreases-terms : goal.decreases-terms
decreases-terms l = length l.rest
