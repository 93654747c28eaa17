use Rattle.std.proofs.Common.{◌+◌, cond, ltb, get_or}
use Rattle.cap_matrix.proofs.Writes.{AreRows}
use Rattle.cap_reduce.specs.Flat.{cell}
use Rattle.cap_reduce.proofs.solving.read_solutions.Given as goal

abbrev pub invariant-loop-k : goal.invariant-loop-k
invariant-loop-k l = AreRows l.n l.k l.xs (λ k i. cond (ltb (get_or l.place i 0) l.rank) (cell l.table l.width (get_or l.place i 0) (l.n + k)) 0)
