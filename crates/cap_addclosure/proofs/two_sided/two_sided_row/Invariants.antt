use Rattle.std.proofs.Common.{◌≡◌, ◌*◌, length}
use Rattle.cap_add_laws.specs.Closure.{joined}
use Rattle.cap_addclosure.proofs.Built.{first_entries}
use Rattle.cap_addclosure.proofs.TwoSidedRows.{two_sided_piece}
use Rattle.cap_addclosure.proofs.two_sided.two_sided_row.Given as goal

abbrev pub invariant-loop-u : goal.invariant-loop-u
invariant-loop-u g v = v.row.items ≡ joined (first_entries v.l.from v.r.to (two_sided_piece (g.T.Table.table v.table) v.l v.r v.i v.j v.t) (v.u * length v.r.to))
