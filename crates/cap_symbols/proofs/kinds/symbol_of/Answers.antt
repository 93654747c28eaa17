use Rattle.std.proofs.Common.{subst}
use Rattle.cap_names.specs.Tokens.{IsTokenText}
use Rattle.cap_symbols.proofs.OneSymbol.{mark_is_fixed}
use Rattle.cap_symbols.proofs.kinds.symbol_of.Goals as goal

pub mark_symbol-requires : goal.mark_symbol-requires
mark_symbol-requires c = mark_is_fixed c.args.text.now (subst (λ k. IsTokenText k c.args.text.now) c.in-Mark.is c.requires)
