use Rattle.std.proofs.Common.{◌≡◌, Some, sym, subst}
use Rattle.cap_list_board.specs.Holds.{Holds}
use Rattle.cap_list_board.proofs.Growing.{final-holds}
use Rattle.cap_list_board.proofs.list_board.ListBoard.finalise.Goals as goal

pub returns-clause-holds : goal.returns-clause-holds
returns-clause-holds g c =
    let now = c.args.self.now in
    subst (λ t. Holds (g.C.Offer.offered t.offer) (record t { plan = Some c.plan.result })) (sym c.self.view_is) (
    final-holds (g.C.Offer.offered now.offer) now c.requires.holds c.args.regs.now c.args.costs.now c.kind-kind.result c.plan.result c.requires.open c.requires.costs (subst (λ t. c.kind-kind.result ≡ (g.C.Offer.offered t.offer).kind) c.self.view_is c.kind-kind.ensures) c.requires.offered c.plan.ensures
    )
