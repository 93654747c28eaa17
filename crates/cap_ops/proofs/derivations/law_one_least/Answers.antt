use Rattle.cap_ops.proofs.DerivationsBounds.{same_least}
use Rattle.cap_ops.proofs.derivations.law_one_least.Goals as goal

pub returns : goal.returns
returns c = same_least
