use Rattle.std.proofs.Common.{◌≡◌, length}
use Rattle.cap_reading.specs.Steps.{many, with_front}
use Rattle.cap_grammar.specs.declared.symbol.Fixed.TheVariants as word
use Rattle.cap_literals.specs.Reading.{is, rows_at}
use Rattle.cap_literals.proofs.literals.more_matrices.Given as goal

abbrev pub invariant-matrices : goal.invariant-matrices
invariant-matrices l = with_front l.matrices (many (is word.Open) rows_at l.rest) ≡ with_front l.fn.matrices (many (is word.Open) rows_at l.symbols)

abbrev pub decreases-matrices : goal.decreases-matrices
decreases-matrices l = length l.rest
