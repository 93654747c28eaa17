use Rattle.std.proofs.Common.{sym, subst}
use Rattle.std.specs.List.{All}
use Rattle.cap_ops.specs.Derivations.{IsWeight}
use Rattle.cap_registered.proofs.Offers.{offers_ranged}
use Rattle.cap_registered.proofs.registering.defaults.Goals as goal

pub returns-clause-ranged : goal.returns-clause-ranged
returns-clause-ranged c = subst (All IsWeight) (sym c.offered.ensures) (offers_ranged c.args.kind)
