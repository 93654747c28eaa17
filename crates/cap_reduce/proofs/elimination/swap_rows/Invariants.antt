use Rattle.cap_reduce.specs.Flat.{IsSwapSoFar}
use Rattle.cap_reduce.proofs.elimination.swap_rows.Given as goal

abbrev pub invariant-loop-c : goal.invariant-loop-c
invariant-loop-c l = IsSwapSoFar l.cols l.initial.cells l.cells l.a l.b l.c
