-- The symbols of a text and their places (this project's own).
use Rattle.std.specs.Prelude.{◌≡◌, ℕ, List, map, slice_range}
use Rattle.std.specs.List.{AllZip}
use Rattle.cap_names.specs.declared.token.Token.{Token}
use Rattle.cap_names.specs.Tokens.{AreTokens}
use Rattle.cap_names.specs.Places.{line_at, column_at}
use Rattle.cap_grammar.specs.declared.tree.Place.{Place}
use Rattle.cap_grammar.specs.declared.symbol.Symbol.{Symbol}
use Rattle.cap_grammar.specs.Texts.{IsSymbol}

-- a place of a text, counted in bytes, as line and column
abbrev pub place_at : List ℕ → ℕ → Place
place_at bs n = record { line = line_at bs n; column = column_at bs n }

-- what a token of the text stands for
abbrev pub StandsFor : List ℕ → Token → Symbol → Type 0
StandsFor bs t s = IsSymbol (slice_range bs t.start t.end) s

-- the symbols of a text are those that its tokens stand for, in order, and stand where these begin
pub record AreSymbols (bs : List ℕ) (symbols : List Symbol) (places : List Place) : Type 0 where
  pub tokens : List Token
  pub are : AreTokens bs tokens
  pub stand : AllZip (StandsFor bs) tokens symbols
  pub begin : places ≡ map (λ t. place_at bs t.start) tokens
