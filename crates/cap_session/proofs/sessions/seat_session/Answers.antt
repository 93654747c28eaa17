use Rattle.cap_session.proofs.Staying.{seated-more}
use Rattle.cap_session.proofs.sessions.seat_session.Goals as goal

pub seats-preserved : goal.seats-preserved
seats-preserved g c = seated-more c.args.session c.args.seats.now c.seats.seats c.seats.seat-index c.seat-item.result c.change_session.new.self c.seats-test.true c.seats.invariant c.change_session.ensures
