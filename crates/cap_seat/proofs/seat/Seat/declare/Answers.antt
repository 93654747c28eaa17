use Rattle.cap_history.specs.declared.entries.Event.TheVariants.{Declare}
use Rattle.cap_seat.proofs.Clauses.{event-holds}
use Rattle.cap_seat.proofs.seat.Seat.declare.Goals as goal

pub returns-clause-holds : goal.returns-clause-holds
returns-clause-holds g c = event-holds g.C.Offer.offered g.C.O.Datum.cells_of g.C.M.Datum.cells_of g.D.Desk.others c.args.self.now c.try_declare.new.self c.requires.holds c.try_declare.ensures.legal (Declare c.args.name c.args.object) c.try_declare.result c.try_declare.ensures.tries c.try_declare.ensures.err
