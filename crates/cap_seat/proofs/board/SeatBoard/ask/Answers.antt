use Rattle.cap_seat.proofs.Answering.{fit-true}
use Rattle.cap_seat.proofs.Clauses.{ask-holds, ask-onward, ask-asks, ask-err}
use Rattle.cap_seat.proofs.board.SeatBoard.ask.Goals as goal

pub try_ask-requires-clause-is_true : goal.try_ask-requires-clause-is_true
try_ask-requires-clause-is_true g c = fit-true (g.C.Offer.offered c.args.self.now.offer) g.C.O.Datum.cells_of g.C.M.Datum.cells_of c.args.self.now c.requires.holds c.args.key.now c.requires.fits c.requires.known

pub returns-clause-holds : goal.returns-clause-holds
returns-clause-holds g c = ask-holds g.C.Offer.offered g.C.O.Datum.cells_of g.C.M.Datum.cells_of g.D.Desk.others c.args.self.now c.try_ask.new.self c.requires.holds c.try_ask.ensures.legal (g.met.D.Desk.are_others) c.args.key.now c.try_ask.result c.try_ask.ensures.asks c.try_ask.ensures.err

pub returns-clause-onward : goal.returns-clause-onward
returns-clause-onward g c = ask-onward g.C.Offer.offered g.C.O.Datum.cells_of g.C.M.Datum.cells_of g.D.Desk.others c.args.self.now c.try_ask.new.self c.requires.holds c.try_ask.ensures.legal (g.met.D.Desk.are_others) c.args.key.now c.try_ask.result c.try_ask.ensures.asks c.try_ask.ensures.err

pub returns-clause-asks : goal.returns-clause-asks
returns-clause-asks g c = ask-asks g.C.Offer.offered g.C.O.Datum.cells_of g.C.M.Datum.cells_of g.D.Desk.others c.args.self.now c.try_ask.new.self c.requires.holds c.try_ask.ensures.legal (g.met.D.Desk.are_others) c.args.key.now c.requires.known c.try_ask.result c.try_ask.ensures.asks

pub returns-clause-err : goal.returns-clause-err
returns-clause-err g c = ask-err g.C.Offer.offered g.C.O.Datum.cells_of g.C.M.Datum.cells_of g.D.Desk.others c.args.self.now c.try_ask.new.self c.requires.holds c.try_ask.ensures.legal (g.met.D.Desk.are_others) c.args.key.now c.try_ask.result c.try_ask.ensures.err
