use Rattle.std.proofs.Common.{◌≡◌, ◌++◌, ◌∷◌, take}
use Rattle.std.specs.List.{flat_map}
use Rattle.cap_grammar.specs.declared.symbol.Fixed.TheVariants as word
use Rattle.cap_grammar.specs.declared.symbol.Symbol.TheVariants as symbol
use Rattle.cap_spelling.specs.Spelling.{name_symbols}
use Rattle.cap_spelling.proofs.words.push_more_names.Given as goal

abbrev pub invariant-names : goal.invariant-names
invariant-names l = l.out.items ≡ l.fn.out.items ++ flat_map (λ x. symbol.Fixed word.Star ∷ name_symbols x) (take l.name-index l.names)
