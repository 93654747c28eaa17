use Rattle.cap_matrix.specs.Grid.{entry}
use Rattle.cap_quiver_paths.specs.Read.{numbers_in}
use Rattle.cap_quiver.specs.Rows.{AreUnitRows}
use Rattle.cap_quiver.proofs.classes.unit_rows.Given as goal

abbrev pub invariant-loop-x : goal.invariant-loop-x
invariant-loop-x l = AreUnitRows (numbers_in l.numbers) l.rows.column_count (entry l.rows.entries) l.homs l.units.items l.x
