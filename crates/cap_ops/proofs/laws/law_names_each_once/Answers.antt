use Rattle.cap_ops.proofs.NewObjects.{names-each-once}
use Rattle.cap_ops.proofs.laws.law_names_each_once.Goals as goal

pub returns : goal.returns
returns g c = names-each-once
