use Rattle.cap_seat.proofs.Answering.{put-true, plan-final}
use Rattle.cap_seat.proofs.Clauses.{put-holds, put-onward, put-puts, put-err}
use Rattle.cap_seat.proofs.board.SeatBoard.put.Goals as goal

pub try_put-requires-clause-is_true : goal.try_put-requires-clause-is_true
try_put-requires-clause-is_true g c = put-true (g.C.Offer.offered c.args.self.now.offer) g.C.O.Datum.cells_of g.C.M.Datum.cells_of c.args.self.now c.requires.holds c.args.key.now c.requires.fits c.requires.known c.args.out c.requires.may

pub returns-clause-holds : goal.returns-clause-holds
returns-clause-holds g c = put-holds g.C.Offer.offered g.C.O.Datum.cells_of g.C.M.Datum.cells_of g.D.Desk.others c.args.self.now c.try_put.new.self c.requires.holds c.try_put.ensures.legal (g.met.D.Desk.are_others) c.args.key.now c.args.out c.try_put.result c.try_put.ensures.puts c.try_put.ensures.err

pub returns-clause-onward : goal.returns-clause-onward
returns-clause-onward g c = put-onward g.C.Offer.offered g.C.O.Datum.cells_of g.C.M.Datum.cells_of g.D.Desk.others c.args.self.now c.try_put.new.self c.requires.holds c.try_put.ensures.legal (g.met.D.Desk.are_others) c.args.key.now c.args.out c.try_put.result c.try_put.ensures.puts c.try_put.ensures.err

pub returns-clause-puts : goal.returns-clause-puts
returns-clause-puts g c = put-puts g.C.Offer.offered g.C.O.Datum.cells_of g.C.M.Datum.cells_of g.D.Desk.others c.args.self.now c.try_put.new.self c.requires.holds c.try_put.ensures.legal (g.met.D.Desk.are_others) c.args.key.now c.args.out c.requires.known (plan-final c.args.self.now.knows c.args.self.now.seen c.requires.may.p c.requires.may.planned.is).0 c.try_put.result c.try_put.ensures.puts

pub returns-clause-err : goal.returns-clause-err
returns-clause-err g c = put-err g.C.Offer.offered g.C.O.Datum.cells_of g.C.M.Datum.cells_of g.D.Desk.others c.args.self.now c.try_put.new.self c.requires.holds c.try_put.ensures.legal (g.met.D.Desk.are_others) c.args.key.now c.args.out c.try_put.result c.try_put.ensures.err
