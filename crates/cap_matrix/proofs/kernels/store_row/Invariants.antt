use Rattle.std.proofs.Common.{◌%◌, get_or}
use Rattle.cap_matrix.specs.Buffer.{IsRowSoFar}
use Rattle.cap_matrix.proofs.kernels.store_row.Given as goal

abbrev pub invariant-loop-c : goal.invariant-loop-c
invariant-loop-c l = IsRowSoFar l.cols l.initial.out l.out l.row l.c (λ q. get_or l.sums q 0 % l.p)
