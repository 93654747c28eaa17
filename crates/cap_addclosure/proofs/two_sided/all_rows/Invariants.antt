use Rattle.std.proofs.Common.{take}
use Rattle.cap_homlaw.specs.Hom.{basis_of}
use Rattle.cap_add_laws.specs.Closure.{joined, sum_list, widths_of, closure_data, closure_hom}
use Rattle.cap_addclosure.specs.TwoSided.{IsStack}
use Rattle.cap_addclosure.proofs.two_sided.all_rows.Given as goal

abbrev pub invariant-loop-k : goal.invariant-loop-k
invariant-loop-k g v = IsStack (sum_list (take v.k (widths_of (g.T.Table.table v.table) v.l.to v.r.from))) (sum_list (widths_of (g.T.Table.table v.table) v.l.from v.r.to))
    (λ k. joined ((closure_data (g.T.Table.table v.table)).compose ((closure_data (g.T.Table.table v.table)).compose v.l (basis_of (closure_hom (g.T.Table.table v.table)) v.l.to v.r.from k)) v.r).entries) v.cells.items
