use Rattle.std.proofs.Common.{◌≡◌}
use Rattle.cap_addclosure.proofs.Built.{first_entries}
use Rattle.cap_addclosure.proofs.Units.{diagonal_piece}
use Rattle.cap_addclosure.proofs.diagonals.diagonal_entries.Given as goal

abbrev pub invariant-loop-k : goal.invariant-loop-k
invariant-loop-k g l = l.entries.items ≡ first_entries l.a l.b (diagonal_piece (g.T.Table.table l.table) l.a l.b l.row l.col) l.k
