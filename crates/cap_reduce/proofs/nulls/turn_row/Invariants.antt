use Rattle.std.proofs.Common.{◌-◌}
use Rattle.cap_matrix.specs.Buffer.{IsRowSoFar}
use Rattle.cap_reduce.specs.Flat.{cell}
use Rattle.cap_reduce.proofs.nulls.turn_row.Given as goal

abbrev pub invariant-loop-c : goal.invariant-loop-c
invariant-loop-c l = IsRowSoFar l.rows l.initial.turned l.turned l.row l.c (λ q. cell l.cells l.cols (l.rows - 1 - q) l.row)
