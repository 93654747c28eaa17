use Rattle.std.proofs.Common.{◌≡◌, length}
use Rattle.cap_reading.specs.Steps.{many, with_front}
use Rattle.cap_grammar.specs.declared.symbol.Fixed.TheVariants as word
use Rattle.cap_literals.specs.Reading.{is, next_row_at}
use Rattle.cap_literals.proofs.matrices.more_rows.Given as goal

abbrev pub invariant-rows : goal.invariant-rows
invariant-rows l = with_front l.rows (many (is word.Semicolon) next_row_at l.rest) ≡ with_front l.fn.rows (many (is word.Semicolon) next_row_at l.symbols)

abbrev pub decreases-rows : goal.decreases-rows
decreases-rows l = length l.rest
