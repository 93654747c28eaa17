use Rattle.std.proofs.Common.{◌≡◌, map, get_or}
use Rattle.std.specs.List.{range_with_len}
use Rattle.cap_laws.specs.Table.{table_data}
use Rattle.cap_add_laws.specs.Closure.{entry_of, joined}
use Rattle.cap_addclosure.proofs.two_sided.row_of_products.Given as goal

abbrev pub invariant-loop-v : goal.invariant-loop-v
invariant-loop-v g l = l.row.items ≡ joined (map (λ v. ((table_data (g.T.Table.table l.table)).compose (record { from = l.x; to = get_or l.r.from l.j 0; coefficients = l.w }) (entry_of l.r l.j v)).coefficients) (range_with_len 0 l.v))
