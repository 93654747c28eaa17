use Rattle.std.proofs.Common.{get_or}
use Rattle.cap_solve.specs.Blocks.{IsAdded}
use Rattle.cap_solve.proofs.blocks.add_row.Given as goal

abbrev pub invariant-loop-k : goal.invariant-loop-k
invariant-loop-k l = IsAdded l.p l.initial.cells l.cells l.at l.k (λ k. get_or l.source k 0)
