use Rattle.cap_ops.proofs.DerivationsLines.{plan_where_lines_hold}
use Rattle.cap_ops.proofs.derivations.law_lines_suffice.Goals as goal

pub returns : goal.returns
returns c = plan_where_lines_hold
