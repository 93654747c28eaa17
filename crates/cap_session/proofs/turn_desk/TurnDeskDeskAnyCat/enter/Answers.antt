use Rattle.std.proofs.Common.{◌≡◌, ◌+◌, ◌∙◌, length, sym, subst, ap, arith}
use Rattle.cap_data.specs.Counts.{cells_in_object, cells_in_morphism}
use Rattle.cap_rules.specs.Table.{rule_table}
use Rattle.cap_legal.specs.Legal.{TrueEvent, Legal}
use Rattle.cap_offer.specs.Labels.{Label, any_offer}
use Rattle.cap_store.specs.State.{Steps, reply_of}
use Rattle.cap_desk.specs.Books.{frame}
use Rattle.cap_desk.specs.Desks.{log_of, DeskSteps}
use Rattle.cap_turn.specs.Line.{StartsWith}
use Rattle.cap_turn.specs.Seats.{numbers, opening, seen, added, seat_place}
use Rattle.cap_session.specs.Anything.{IsAnything}
use Rattle.cap_session.proofs.Turning.{same-label, true-at, steps-at, grown-at, hand-at}
use Rattle.cap_session.proofs.turn_desk.TurnDeskDeskAnyCat.enter.Goals as goal

pub enter-entered-requires : goal.enter-entered-requires
enter-entered-requires g c =
    let offer : Label = (opening c.args.self.now.turn.now).ledger.offer in
    let taken = c.take-behind.result.ledger in
    let same : taken.offer ≡ offer = same-label taken.offer offer (c.take-behind.ensures.label.0 ∙ c.args.self.now.label) in
    subst (λ o. TrueEvent (any_offer o) rule_table taken.entries c.args.event) (sym same) (true-at (any_offer offer) (seen c.args.self.now.seat) taken.entries c.args.event c.take-behind.ensures.grown.0 c.requires.is_true)

pub give-requires-clause-grown : goal.give-requires-clause-grown
give-requires-clause-grown g c =
    let taken = c.take-behind.result.ledger in
    let after = c.enter-entered.new.self in
    subst (StartsWith after.entries) (sym c.take-behind.ensures.grown.1) (grown-at (any_offer taken.offer) cells_in_object cells_in_morphism taken.entries after.entries c.args.session c.args.event (reply_of c.enter-entered.result) c.enter-entered.ensures.steps)

pub returns-clause-legal : goal.returns-clause-legal
returns-clause-legal g c =
    let offer : Label = (opening c.args.self.now.turn.now).ledger.offer in
    let taken = c.take-behind.result.ledger in
    let after = c.enter-entered.new.self in
    let same : after.offer ≡ offer = c.enter-entered.ensures.same ∙ same-label taken.offer offer (c.take-behind.ensures.label.0 ∙ c.args.self.now.label) in
    subst (λ o. Legal (frame (any_offer o) cells_in_object cells_in_morphism) (seen c.give.new.seat)) same (subst (Legal (frame (any_offer after.offer) cells_in_object cells_in_morphism)) (sym c.give.ensures.seen) c.enter-entered.ensures.legal)

pub returns-clause-steps : goal.returns-clause-steps
returns-clause-steps g c =
    let offer : Label = (opening c.args.self.now.turn.now).ledger.offer in
    let taken = c.take-behind.result.ledger in
    let after = c.enter-entered.new.self in
    let result = reply_of c.enter-entered.result in
    let same : taken.offer ≡ offer = same-label taken.offer offer (c.take-behind.ensures.label.0 ∙ c.args.self.now.label) in
    let steps = subst (λ o. Steps cells_in_object cells_in_morphism (log_of (any_offer o) taken.entries) c.args.session c.args.event result (log_of (any_offer o) after.entries)) same c.enter-entered.ensures.steps in
    subst (DeskSteps (any_offer offer) cells_in_object cells_in_morphism IsAnything (seen c.args.self.now.seat) c.args.session c.args.event result) (sym c.give.ensures.seen)
    (steps-at (any_offer offer) cells_in_object cells_in_morphism taken.entries after.entries c.args.session c.args.event (seen c.args.self.now.seat) result c.take-behind.ensures.grown.0 steps)

pub returns-clause-hand : goal.returns-clause-hand
returns-clause-hand g c =
    let taken = c.take-behind.result.ledger in
    let after = c.enter-entered.new.self in
    let before = c.args.self.now.seat in
    let behind = c.give.new.seat in
    let e : added behind + length taken.entries ≡ added before + length after.entries = omega (arith, c.give.ensures.added, ap length c.take-behind.ensures.grown.1, c.take-behind.ensures.kept.1) in
    hand-at (any_offer taken.offer) cells_in_object cells_in_morphism taken.entries after.entries c.args.session c.args.event (reply_of c.enter-entered.result) (seat_place before) (seat_place behind) (added before) (added behind) c.enter-entered.ensures.steps
    (ap numbers (c.give.ensures.turn.0 ∙ sym c.args.self.now.of_turn)) e
