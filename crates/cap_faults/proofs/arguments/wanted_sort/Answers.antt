use Rattle.std.proofs.Common.{sym}
use Rattle.cap_faults.proofs.Operations.{no_argument}
use Rattle.cap_faults.proofs.arguments.wanted_sort.Goals as goal

pub returns-else-place-lt4 : goal.returns-else-place-lt4
returns-else-place-lt4 c = sym (no_argument c.args.op.0 c.args.place c.if-place-lt4.false)
