use Rattle.cap_ops.proofs.NewObjects.{used-stand-at-new}
use Rattle.cap_ops.proofs.laws.law_new_objects.Goals as goal

pub returns : goal.returns
returns g c = used-stand-at-new
