use Rattle.std.proofs.Common.{◌+◌, ◌*◌, ◌%◌, get_or}
use Rattle.cap_matrix.specs.Buffer.{IsRowSoFar}
use Rattle.cap_reduce.specs.Flat.{cell}
use Rattle.cap_reduce.proofs.elimination.add_row.Given as goal

abbrev pub invariant-loop-c : goal.invariant-loop-c
invariant-loop-c l = IsRowSoFar l.cols l.initial.cells l.cells l.to l.c
    (λ q. (cell l.initial.cells l.cols l.to q + l.factor * get_or l.source q 0) % l.p)
