use Rattle.std.proofs.Common.{sym, ap}
use Rattle.std.specs.Prelude.{map}
use Rattle.cap_ops.specs.Ends.{padded, sort_of}
use Rattle.cap_faults.proofs.Operations.{outside_table, no_truth}
use Rattle.cap_faults.proofs.arguments.argument_sorts.Goals as goal

pub returns-else-is_operation : goal.returns-else-is_operation
returns-else-is_operation c = sym (ap (λ p. padded (map sort_of p.arguments)) (outside_table c.args.op.0 (λ h. no_truth (c.if-is_operation.ensures.1 h))))
