use Rattle.std.proofs.Common.{◌+◌, None, rules}
use Rattle.std.proofs.lemmas.List.FromFn.{fill_by_all}
use Rattle.cap_desk.proofs.ledger.offered_by.Goals as goal

pub returns : goal.returns
returns g c =
    let D = g.C.Offer.offered c.args.offer.now in
    fill_by_all (λ k. D.weight (k + 1)) c.loop-op.weights 44 None c.loop-op.invariant.0 (search rules)
