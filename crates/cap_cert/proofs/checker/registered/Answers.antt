use Rattle.std.proofs.Common.{◌∙◌, ap, arith}
use Rattle.std.specs.Prelude.{count_by, is_some}
use Rattle.std.proofs.lemmas.List.{take_all}
use Rattle.cap_cert.proofs.checker.registered.Goals as goal

pub returns-clause-count : goal.returns-clause-count
returns-clause-count c = c.places.invariant.told ∙ ap (count_by is_some) (take_all c.places.place c.args.regs.now.weights (omega arith))
