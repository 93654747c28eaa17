use Rattle.cap_data.specs.Counts.{cells_in_object, cells_in_morphism}
use Rattle.cap_offer.specs.Labels.{any_offer}
use Rattle.cap_store.specs.State.{reply_of}
use Rattle.cap_turn.specs.Seats.{seen}
use Rattle.cap_shares.proofs.Growing.{grown-by}
use Rattle.cap_shares.proofs.tests.what_a_session_adds_stands_in_the_state_at_the_end.Goals as goal

pub give-requires-clause-grown : goal.give-requires-clause-grown
give-requires-clause-grown g c =
    let taken = c.take-behind.result.ledger in
    let after = c.enter-entered.new.self in
    let result = reply_of c.enter-entered.result in
    grown-by (any_offer taken.offer) cells_in_object cells_in_morphism taken.entries after.entries (seen c.take-behind.new.seat) _ _ result c.take-behind.ensures.grown.1 c.enter-entered.ensures.steps
