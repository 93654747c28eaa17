use Rattle.std.proofs.Common.{◌≡◌, ◌++◌, ◌∷◌, [], length, sym, subst, ap, ◌∙◌}
use Rattle.std.specs.List.{AllZip}
use Rattle.cap_data.specs.Counts.{cells_in_object, cells_in_morphism}
use Rattle.cap_desk.specs.Books.{frame}
use Rattle.cap_legal.specs.Legal.{Legal}
use Rattle.cap_offer.specs.Labels.{Label, any_offer}
use Rattle.cap_commands.specs.Seats.{AtSeat}
use Rattle.cap_shares.specs.Shares.{Shared, BeginsWith}
use Rattle.cap_session.specs.Shares.{IsClosedAs}
use Rattle.cap_session.proofs.Ends.{zip-more}
use Rattle.cap_session.proofs.shares.+close_all.Goals as goal

pub returns : goal.returns
returns g t c =
    let k : Shared = c.in-Some.category in
    let a : AtSeat = c.new-3.result in
    let desk = ap (λ d. d.ledger) c.new-desk.ensures ∙ c.new-2.ensures in
    let offer : a.offer ≡ c.close-ledger.result.offer = ap (λ (s : AtSeat). s.offer) c.new-3.ensures.is ∙ ap (λ b. b.offer) desk in
    let seen : a.seen ≡ c.close-ledger.result.entries = ap (λ (s : AtSeat). s.seen) c.new-3.ensures.is ∙ ap (λ b. b.entries) desk in
    let closes = c.close-ledger.ensures in
    let is : IsClosedAs k a = record {
      offer = offer ∙ closes.offer;
      legal = subst (λ (x : Label). Legal (frame (any_offer x) cells_in_object cells_in_morphism) a.seen) (sym (ap (λ (s : AtSeat). s.offer) c.new-3.ensures.is)) c.new-3.ensures.holds.legal;
      grown = subst (λ es. BeginsWith es k.seen) (sym seen) closes.grown;
      many = ap length seen ∙ closes.many;
    } in
    let more = zip-more IsClosedAs c.pop.new.self.items c.in_ok-seats.seats.items k a c.in_ok-seats.ensures is in
    subst (AllZip IsClosedAs c.args.categories.items) (sym c.in_ok-push.ensures.items)
    (subst (λ ks. AllZip IsClosedAs ks (c.in_ok-seats.seats.items ++ a ∷ [])) (sym c.in-Some.ensures.items) more)
