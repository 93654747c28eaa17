use Rattle.std.proofs.Common.{get_or}
use Rattle.cap_matrix.specs.Buffer.{IsRowSoFar}
use Rattle.cap_reduce.specs.Flat.{cell}
use Rattle.cap_reduce.specs.NullTable.{null_entry}
use Rattle.cap_reduce.proofs.nulls.write_null_row.Given as goal

abbrev pub invariant-loop-c : goal.invariant-loop-c
invariant-loop-c l = IsRowSoFar l.cols l.initial.out l.out l.row l.c (null_entry l.p l.rank l.cols (cell l.cells l.cols) (λ j. get_or l.place j 0) l.free)
