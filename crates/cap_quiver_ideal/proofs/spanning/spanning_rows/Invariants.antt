use Rattle.std.proofs.Common.{◌*◌}
use Rattle.cap_quiver_laws.specs.Ideal.{ideal_table}
use Rattle.cap_quiver_paths.specs.Read.{numbers_in}
use Rattle.cap_quiver_paths.specs.Relations.{relations_of}
use Rattle.cap_quiver_paths.specs.TermNumbers.{number_in}
use Rattle.cap_quiver_ideal.specs.Spans.{IsSpanOf}
use Rattle.cap_quiver_ideal.proofs.spanning.spanning_rows.Given as goal

abbrev pub invariant-loop-r : goal.invariant-loop-r
invariant-loop-r l =
    let A = numbers_in l.numbers in
    IsSpanOf l.fn.field (l.r * (A.count * A.count)) A.count (ideal_table l.fn.field A (relations_of l.relations) (number_in l.terms)) l.rows
