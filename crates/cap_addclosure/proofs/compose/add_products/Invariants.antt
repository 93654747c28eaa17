use Rattle.std.proofs.Common.{◌≡◌, get_or}
use Rattle.cap_laws.specs.Table.{table_data}
use Rattle.cap_add_laws.specs.Closure.{entry_of, sum_below}
use Rattle.cap_addclosure.proofs.compose.add_products.Given as goal

abbrev pub invariant-loop-j : goal.invariant-loop-j
invariant-loop-j g l = l.sum ≡ (sum_below (table_data (g.T.Table.table l.table)) (get_or l.f.from l.i 0) (get_or l.g.to l.k 0) l.j (λ j. (table_data (g.T.Table.table l.table)).compose (entry_of l.f l.i j) (entry_of l.g j l.k))).coefficients
