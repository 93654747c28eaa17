use Rattle.std.proofs.Common.{◌≡◌, ◌<◌, ◌-◌, None, get_or, sym, subst, arith}
use Rattle.cap_ops.specs.Offered.{offered_weight}
use Rattle.cap_encoded.proofs.Numbers.{weight-at}
use Rattle.cap_encoded.proofs.weights.default_weight.Goals as goal

pub returns : goal.returns
returns c =
    let low : 0 < c.args.op.0 = omega (arith, c.if-op-eq0.false) in
    subst (λ ws. get_or ws (c.args.op.0 - 1) None ≡ offered_weight c.args.kind c.args.op.0) (sym c.offered.ensures) (weight-at c.args.kind c.args.op.0 None low c.if-op-gt-OPERATIONS.false)
