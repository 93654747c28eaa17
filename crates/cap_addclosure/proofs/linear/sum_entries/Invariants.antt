use Rattle.std.proofs.Common.{◌≡◌}
use Rattle.cap_laws.specs.Table.{table_data}
use Rattle.cap_add_laws.specs.Closure.{entry_of}
use Rattle.cap_addclosure.proofs.Built.{first_entries}
use Rattle.cap_addclosure.proofs.linear.sum_entries.Given as goal

abbrev pub invariant-loop-k : goal.invariant-loop-k
invariant-loop-k g l = l.entries.items ≡ first_entries l.f.from l.f.to (λ i j. (table_data (g.T.Table.table l.table)).add (entry_of l.f i j) (entry_of l.g i j)) l.k
