use Rattle.std.proofs.Common.{ℕ, ◌<◌}
use Rattle.cap_names.specs.Operations.{IsNamed}
use Rattle.cap_names.proofs.operations.op_by_name.Given as goal

abbrev pub invariant-numbers : goal.invariant-numbers
invariant-numbers l = (k : ℕ) → k < l.number → IsNamed k l.word → ⊥
