use Rattle.cap_reduce.specs.Flat.{cell}
use Rattle.cap_reduce.specs.NullTable.{IsNoneLeft}
use Rattle.cap_reduce.proofs.solving.first_left.Given as goal

abbrev pub invariant-loop-column : goal.invariant-loop-column
invariant-loop-column l = IsNoneLeft l.rank l.rows l.start l.column (cell l.table l.width)
