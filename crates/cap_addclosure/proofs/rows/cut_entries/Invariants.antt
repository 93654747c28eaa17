use Rattle.std.proofs.Common.{◌≡◌, ◌≤◌, ◌*◌, take}
use Rattle.cap_add_laws.specs.Closure.{sum_list, widths_of, cut_by}
use Rattle.cap_addclosure.proofs.rows.cut_entries.Given as goal

abbrev pub invariant-loop-k : goal.invariant-loop-k
invariant-loop-k g l = record {
  start : l.start ≡ sum_list (take l.k (widths_of (g.T.Table.table l.table) l.a l.b));
  small : l.start ≤ l.k * 128;
  entries : l.entries.items ≡ cut_by (take l.k (widths_of (g.T.Table.table l.table) l.a l.b)) l.row;
}
