use Rattle.std.proofs.Common.{◌≡◌, ◌*◌, ◌≤◌, take}
use Rattle.cap_add_laws.specs.Closure.{sum_list, widths_of}
use Rattle.cap_addclosure.proofs.sizes.dimension.Given as goal

abbrev pub invariant-loop-k : goal.invariant-loop-k
invariant-loop-k g l = record {
  count : l.count ≡ sum_list (take l.k (widths_of (g.T.Table.table l.table) l.a l.b));
  small : l.count ≤ l.k * 128;
}
