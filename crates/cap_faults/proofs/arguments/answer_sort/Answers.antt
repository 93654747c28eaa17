use Rattle.std.proofs.Common.{sym, ap}
use Rattle.cap_ops.specs.Ends.{sort_of}
use Rattle.cap_faults.proofs.Operations.{outside_table, no_truth}
use Rattle.cap_faults.proofs.arguments.answer_sort.Goals as goal

pub returns-else-is_operation : goal.returns-else-is_operation
returns-else-is_operation c = sym (ap (λ p. sort_of p.answer) (outside_table c.args.op.0 (λ h. no_truth (c.if-is_operation.ensures.1 h))))
