use Rattle.std.specs.List.{All}
use Rattle.cap_offer.specs.Literals.{IsInteger}
use Rattle.cap_kind_tests.proofs.offer.rooms.literal.Given as goal

abbrev pub invariant-loop-i : goal.invariant-loop-i
invariant-loop-i g l = All (λ row. All IsInteger row) l.written.items
