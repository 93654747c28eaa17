use Rattle.std.proofs.Common.{◌≡◌, ◌++◌, ◌∷◌, [], drop, length}
use Rattle.cap_grammar.specs.declared.symbol.Fixed.TheVariants as word
use Rattle.cap_grammar.specs.declared.symbol.Symbol.TheVariants as symbol
use Rattle.cap_grammar.specs.Scripts.{without_empty_lines, whole_lines}
use Rattle.cap_lines.specs.Marks.{marks}
use Rattle.cap_lines.proofs.lines.whole_lines.Given as goal

abbrev pub invariant-symbols : goal.invariant-symbols
invariant-symbols l = record {
  lengths : length l.kept.items ≡ length l.kept_places.items;
  kept : marks l.kept.items l.kept_places.items ++ without_empty_lines l.begins (marks (drop l.i l.symbols) (drop l.i l.places) ++ record { symbol = symbol.Fixed word.Newline; place = l.fn.end } ∷ []) ≡ whole_lines (marks l.symbols l.places) l.fn.end;
}
