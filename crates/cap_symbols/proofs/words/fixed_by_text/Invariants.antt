use Rattle.std.proofs.Common.{◌≡◌, ◌<◌, ℕ, get_or}
use Rattle.cap_grammar.specs.declared.symbol.Fixed.TheVariants as word
use Rattle.cap_grammar.specs.Texts.{fixed_text}
use Rattle.cap_symbols.proofs.words.fixed_by_text.Given as goal

abbrev pub invariant-words : goal.invariant-words
invariant-words l = (k : ℕ) → k < l.fixed-index → fixed_text (get_or l.fixed-items k word.Table) ≡ l.text → ⊥
