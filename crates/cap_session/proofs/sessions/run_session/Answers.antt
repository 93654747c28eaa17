use Rattle.std.proofs.Common.{◌≡◌, length, refl, ap, take, ◌∙◌, arith}
use Rattle.std.specs.Vec.{with_items}
use Rattle.std.proofs.lemmas.List.{with_items_is, length-map}
use Rattle.cap_commands.specs.Seats.{AtSeat}
use Rattle.cap_traces.specs.Runs.{seated}
use Rattle.cap_session.specs.declared.course.Course.{Course}
use Rattle.cap_session.proofs.Sitting.{sits, sat}
use Rattle.cap_session.proofs.sessions.run_session.Goals as goal

pub run_commands-requires-clause-comes : goal.run_commands-requires-clause-comes
run_commands-requires-clause-comes g c κs within =
    let C = c.args.course.now in
    let C1 : Course AtSeat = record { standing = C.standing; seats = with_items C.seats c.seat_session.new.seats; events = C.events; done = C.done } in
    let sitting : c.seat_session.new.seats ≡ seated c.args.session C.seats.items = c.seat_session.ensures ∙ ap (seated c.args.session) c.as_mut_slice.ensures.value in
    let many : length c.seat_session.new.seats ≡ C.seats.len = omega (arith, ap length sitting, length-map C.seats.items (λ (s : AtSeat). record s { session = c.args.session }), C.seats.ok.0) in
    sits C C1 c.args.session c.args.commands.now c.requires.comes refl (with_items_is C.seats c.seat_session.new.seats many ∙ sitting) refl refl

pub returns : goal.returns
returns g c =
    let C = c.args.course.now in
    let C1 : Course AtSeat = record { standing = C.standing; seats = with_items C.seats c.seat_session.new.seats; events = C.events; done = C.done } in
    let ran = c.run_commands.new.course in
    let C3 : Course AtSeat = record { standing = record ran.standing { bound = c.truncate.new.self }; seats = ran.seats; events = ran.events; done = ran.done } in
    let sitting : c.seat_session.new.seats ≡ seated c.args.session C.seats.items = c.seat_session.ensures ∙ ap (seated c.args.session) c.as_mut_slice.ensures.value in
    let many : length c.seat_session.new.seats ≡ C.seats.len = omega (arith, ap length sitting, length-map C.seats.items (λ (s : AtSeat). record s { session = c.args.session }), C.seats.ok.0) in
    sat g.D.Desk.others C C1 ran C3 c.hand_over.new.course c.args.session c.args.commands.now c.hand_over.result refl (with_items_is C.seats c.seat_session.new.seats many ∙ sitting) c.in_ok-run_commands.ensures
    (ap (λ b. record ran.standing { bound = b }) (c.truncate.ensures ∙ ap (λ n. take n ran.standing.bound) c.len-bound.ensures)) refl refl refl c.hand_over.ensures
