use Rattle.std.proofs.Common.{◌≡◌, ◌++◌, ◌∷◌, [], sym, subst, ap, ◌∙◌}
use Rattle.std.specs.List.{AllZip}
use Rattle.cap_commands.specs.Seats.{AtSeat}
use Rattle.cap_shares.specs.Shares.{Shared, opened}
use Rattle.cap_session.specs.Shares.{IsSharedOf}
use Rattle.cap_session.proofs.Ends.{zip-more}
use Rattle.cap_session.proofs.shares.+share_all.Goals as goal

pub returns : goal.returns
returns g t c =
    let seat : AtSeat = c.in-Some.seat in
    let k : Shared = c.in_ok-open.field-0 in
    let parts = c.into_parts-desk.ensures in
    let ledger : c.into_ledger-ledger.result ≡ record { offer = seat.offer; entries = seat.seen } =
    c.into_ledger-ledger.ensures ∙ ap (λ d. d.ledger) c.into_desk.ensures ∙ (λ i. record { offer = parts.offer i; entries = parts.seen i }) in
    let is : IsSharedOf c.args.shares seat k = c.in_ok-open.ensures ∙ (λ i. opened k.place (ledger i) (parts.memory i) c.args.shares) in
    let more = zip-more (IsSharedOf c.args.shares) c.pop.new.self.items c.in_ok-categories.categories.items seat k c.in_ok-categories.ensures is in
    subst (AllZip (IsSharedOf c.args.shares) c.args.seats.items) (sym c.in_ok-push.ensures.items)
    (subst (λ seats. AllZip (IsSharedOf c.args.shares) seats (c.in_ok-categories.categories.items ++ k ∷ [])) (sym c.in-Some.ensures.items) more)
