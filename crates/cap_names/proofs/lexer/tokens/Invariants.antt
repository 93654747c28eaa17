use Rattle.std.proofs.Common.{length}
use Rattle.cap_names.proofs.Pieces.{IsReadUpTo}
use Rattle.cap_names.proofs.lexer.tokens.Given as goal

abbrev pub invariant-pieces : goal.invariant-pieces
invariant-pieces l = IsReadUpTo l.bytes l.rest l.tokens.items l.place

abbrev pub decreases-pieces : goal.decreases-pieces
decreases-pieces l = length l.rest
