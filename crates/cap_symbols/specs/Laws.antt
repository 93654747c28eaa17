-- The law of symbols.
use Rattle.std.specs.Prelude.{◌≡◌, ℕ, List}
use Rattle.cap_grammar.specs.declared.tree.Place.{Place}
use Rattle.cap_grammar.specs.declared.symbol.Symbol.{Symbol}
use Rattle.cap_symbols.specs.Marks.{AreSymbols}

-- a text has one list of symbols at most, and one of their places
abbrev pub OneSymbolList : Type 0
OneSymbolList = (bs : List ℕ) (xs ys : List Symbol) (ps qs : List Place) → AreSymbols bs xs ps → AreSymbols bs ys qs → (xs ≡ ys) × (ps ≡ qs)
