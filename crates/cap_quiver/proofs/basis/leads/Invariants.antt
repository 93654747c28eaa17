use Rattle.std.proofs.Common.{◌≡◌, length}
use Rattle.cap_matrix.specs.Grid.{entry}
use Rattle.cap_quiver_laws.specs.ClassTable.{IsLeads}
use Rattle.cap_quiver.proofs.basis.leads.Given as goal

abbrev pub invariant-loop-f : goal.invariant-loop-f
invariant-loop-f l = record {
  long : length l.basis.items ≡ l.f;
  leads : IsLeads (entry l.rows.entries) l.rows.column_count l.basis.items;
}
