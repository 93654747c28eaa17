use Rattle.std.specs.List.{All}
use Rattle.cap_offer.specs.Literals.{IsInteger}
use Rattle.cap_bench_offer.proofs.random_square.Given as goal

abbrev pub invariant-loop : goal.invariant-loop
invariant-loop l = All (λ row. All IsInteger row) l.rows.items
