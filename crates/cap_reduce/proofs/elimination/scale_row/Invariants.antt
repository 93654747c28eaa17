use Rattle.std.proofs.Common.{◌*◌, ◌%◌}
use Rattle.cap_matrix.specs.Buffer.{IsRowSoFar}
use Rattle.cap_reduce.specs.Flat.{cell}
use Rattle.cap_reduce.proofs.elimination.scale_row.Given as goal

abbrev pub invariant-loop-c : goal.invariant-loop-c
invariant-loop-c l = IsRowSoFar l.cols l.initial.cells l.cells l.row l.c (λ q. (cell l.initial.cells l.cols l.row q * l.factor) % l.p)
