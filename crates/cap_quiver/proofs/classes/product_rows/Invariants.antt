use Rattle.cap_matrix.specs.Grid.{entry}
use Rattle.cap_quiver_paths.specs.Read.{numbers_in}
use Rattle.cap_quiver.specs.Rows.{AreProductRows}
use Rattle.cap_quiver.proofs.classes.product_rows.Given as goal

abbrev pub invariant-loop-k : goal.invariant-loop-k
invariant-loop-k l = AreProductRows (numbers_in l.numbers) l.rows.column_count (entry l.rows.entries) l.homs l.basis l.products.items l.k
