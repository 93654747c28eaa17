use Rattle.std.proofs.Common.{◌≡◌, ◌+◌, ◌^◌, ◌<◌, [], ◌∷◌, length, sym, subst, ap, arith}
use Rattle.cap_list_board.specs.Holds.{Holds}
use Rattle.cap_list_board.proofs.Growing.{more-holds}
use Rattle.cap_list_board.proofs.list_board.ListBoard.declare.Goals as goal

pub returns-in-Ok-clause-holds : goal.returns-in-Ok-clause-holds
returns-in-Ok-clause-holds g c =
    let now = c.args.self.now in
    let same : length c.objects-place.result.now ≡ length now.objects = ap length c.objects-place.ensures in
    let room : length now.objects + length (c.args.object ∷ []) < 2 ^ 32 = omega (arith, same) in
    subst (λ t. Holds (g.C.Offer.offered t.offer) t) (sym c.in-Ok.ensures.ok) (more-holds (g.C.Offer.offered now.offer) now c.requires.holds (c.args.object ∷ []) room (c.requires.is_object, tt))
