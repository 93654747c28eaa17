use Rattle.std.specs.List.{All}
use Rattle.cap_ops.specs.Derivations.{IsWeight}
use Rattle.cap_planning_tests.proofs.plan.registered.Given as goal

abbrev pub invariant-loop-number : goal.invariant-loop-number
invariant-loop-number l = All IsWeight l.regs.weights
