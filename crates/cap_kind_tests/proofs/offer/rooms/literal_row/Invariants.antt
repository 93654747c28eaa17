use Rattle.std.specs.List.{All}
use Rattle.cap_offer.specs.Literals.{IsInteger}
use Rattle.cap_kind_tests.proofs.offer.rooms.literal_row.Given as goal

abbrev pub invariant-loop-j : goal.invariant-loop-j
invariant-loop-j g l = All IsInteger l.entries.items
