use Rattle.std.proofs.Common.{◌≡◌, map, take, drop}
use Rattle.std.specs.List.{AllZip}
use Rattle.cap_names.specs.Tokens.{InOrder}
use Rattle.cap_symbols.specs.Marks.{place_at, StandsFor}
use Rattle.cap_symbols.proofs.marks.symbols.Given as goal

abbrev pub invariant-tokens : goal.invariant-tokens
invariant-tokens l = record {
  place : l.place ≡ place_at l.bytes l.at;
  behind : InOrder l.at (drop l.token-index l.token-items);
  stand : AllZip (StandsFor l.bytes) (take l.token-index l.token-items) l.symbols.items;
  begin : l.places.items ≡ map (λ t. place_at l.bytes t.start) (take l.token-index l.token-items);
}
