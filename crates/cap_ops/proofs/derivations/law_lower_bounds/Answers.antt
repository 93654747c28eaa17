use Rattle.cap_ops.proofs.DerivationsBounds.{lower, below_of_lower}
use Rattle.cap_ops.proofs.derivations.law_lower_bounds.Goals as goal

pub returns : goal.returns
returns c = λ m bounds op are tree. lower m bounds (below_of_lower m bounds are) tree
