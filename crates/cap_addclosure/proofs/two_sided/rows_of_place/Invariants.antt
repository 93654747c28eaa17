use Rattle.cap_add_laws.specs.Closure.{joined, sum_list, widths_of}
use Rattle.cap_addclosure.specs.TwoSided.{two_sided, IsStack}
use Rattle.cap_addclosure.proofs.two_sided.rows_of_place.Given as goal

abbrev pub invariant-loop-t : goal.invariant-loop-t
invariant-loop-t g v = IsStack v.t (sum_list (widths_of (g.T.Table.table v.table) v.l.from v.r.to)) (λ t. joined (two_sided (g.T.Table.table v.table) v.l v.r v.i v.j t).entries) v.rows.items
