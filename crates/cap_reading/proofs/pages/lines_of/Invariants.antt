use Rattle.std.proofs.Common.{◌≡◌, ◌++◌, ◌∷◌, [], drop}
use Rattle.cap_reading.specs.Lines.{without_empty_lines, places, lines, line_places}
use Rattle.cap_reading.specs.Example.{is}
use Rattle.cap_reading.proofs.pages.lines_of.Given as goal

abbrev pub invariant-bytes : goal.invariant-bytes
invariant-bytes l = record {
  kept : l.kept.items ++ without_empty_lines (is 59) l.begins (drop l.i l.bytes ++ 59 ∷ []) ≡ lines (is 59) 59 l.bytes;
  places : l.places.items ++ places (is 59) l.begins l.i (drop l.i l.bytes ++ 59 ∷ []) ≡ line_places (is 59) 59 l.bytes;
}
