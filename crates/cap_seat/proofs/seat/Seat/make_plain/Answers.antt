use Rattle.cap_seat.proofs.Clauses.{event-holds}
use Rattle.cap_seat.proofs.seat.Seat.make_plain.Goals as goal

pub returns-clause-holds : goal.returns-clause-holds
returns-clause-holds g c = event-holds g.C.Offer.offered g.C.O.Datum.cells_of g.C.M.Datum.cells_of g.D.Desk.others c.args.self.now c.try_plain.new.self c.requires.holds c.try_plain.ensures.legal c.args.event c.try_plain.result c.try_plain.ensures.tries c.try_plain.ensures.err
