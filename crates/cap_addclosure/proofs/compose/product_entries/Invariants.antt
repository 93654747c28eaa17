use Rattle.std.proofs.Common.{◌≡◌, length, get_or}
use Rattle.cap_laws.specs.Table.{table_data}
use Rattle.cap_add_laws.specs.Closure.{entry_of, sum_below}
use Rattle.cap_addclosure.proofs.Built.{first_entries}
use Rattle.cap_addclosure.proofs.compose.product_entries.Given as goal

abbrev pub invariant-loop-k : goal.invariant-loop-k
invariant-loop-k g l = l.entries.items ≡ first_entries l.f.from l.g.to
    (λ i k. sum_below (table_data (g.T.Table.table l.table)) (get_or l.f.from i 0) (get_or l.g.to k 0) (length l.f.to) (λ j. (table_data (g.T.Table.table l.table)).compose (entry_of l.f i j) (entry_of l.g j k))) l.k
