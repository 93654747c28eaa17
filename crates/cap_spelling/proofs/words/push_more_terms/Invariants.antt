use Rattle.std.proofs.Common.{◌≡◌, ◌++◌, ◌∷◌, take}
use Rattle.std.specs.List.{flat_map}
use Rattle.cap_grammar.specs.declared.symbol.Fixed.TheVariants as word
use Rattle.cap_grammar.specs.declared.symbol.Symbol.TheVariants as symbol
use Rattle.cap_spelling.specs.Spelling.{term_symbols}
use Rattle.cap_spelling.proofs.words.push_more_terms.Given as goal

abbrev pub invariant-terms : goal.invariant-terms
invariant-terms l = l.out.items ≡ l.fn.out.items ++ flat_map (λ x. symbol.Fixed word.Plus ∷ term_symbols x) (take l.term-index l.terms)
