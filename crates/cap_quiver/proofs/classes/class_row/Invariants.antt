use Rattle.std.proofs.Common.{◌≡◌, cond, ltb, get_or}
use Rattle.cap_laws.specs.Table.{row_below}
use Rattle.cap_matrix.specs.Grid.{entry}
use Rattle.cap_quiver.proofs.classes.class_row.Given as goal

abbrev pub invariant-loop-l : goal.invariant-loop-l
invariant-loop-l l = l.row.items ≡ row_below l.l (λ i. cond (ltb l.q l.rows.column_count) (entry l.rows.entries (get_or l.hom i 0) l.q) 0)
