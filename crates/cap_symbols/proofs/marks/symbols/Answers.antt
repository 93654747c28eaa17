use Rattle.std.proofs.Common.{◌+◌, take, subst, sym, ◌∙◌}
use Rattle.std.specs.List.{AllZip}
use Rattle.cap_symbols.specs.Marks.{StandsFor}
use Rattle.cap_symbols.proofs.Walk.{from_next, more_stand, more_begin}
use Rattle.cap_symbols.proofs.marks.symbols.Goals as goal

pub tokens-preserved : goal.tokens-preserved
tokens-preserved c =
    let stand = more_stand c.args.bytes.now c.as_slice-token-items.result.now c.tokens.token-index _ c.tokens.symbols.items c.symbol_of-symbol.result c.tokens-test.true c.tokens.invariant.stand c.symbol_of-symbol.ensures in
    let begin = more_begin c.args.bytes.now c.as_slice-token-items.result.now c.tokens.token-index _ c.tokens.places.items c.advance-place.result c.tokens-test.true c.tokens.invariant.begin c.advance-place.ensures in
    record {
      place = c.advance-place.ensures;
      behind = (from_next c.tokens.at c.as_slice-token-items.result.now c.tokens.token-index _ c.tokens-test.true c.tokens.invariant.behind).1;
      stand = subst (AllZip (StandsFor c.args.bytes.now) (take (c.tokens.token-index + 1) c.as_slice-token-items.result.now)) (sym c.in_ok-push_mark.ensures.symbols) stand;
      begin = c.in_ok-push_mark.ensures.places ∙ begin;
    }
