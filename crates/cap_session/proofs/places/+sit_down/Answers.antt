use Rattle.std.proofs.Common.{◌≡◌, ◌++◌, ◌∷◌, [], length, sym, ap, ◌∙◌, subst, arith}
use Rattle.cap_seat.specs.Memories.{remembering}
use Rattle.cap_commands.specs.Seats.{AtSeat}
use Rattle.cap_session.specs.Places.{HoldsThere, sitting, sat_down}
use Rattle.cap_session.proofs.SittingDown.{last, rest-holds, place-here, label-here, one-more-seat, holds-here}
use Rattle.cap_session.proofs.places.+sit_down.Goals as goal

pub sit_down-requires-clause-fits : goal.sit_down-requires-clause-fits
sit_down-requires-clause-fits g t c κs within = (last c.args.session c.args.categories.now c.pop.new.self.items c.args.row.items c.in-Some.seat c.in-Some.ensures.items c.requires.fits).rest

pub sit_down-requires-clause-holds : goal.sit_down-requires-clause-holds
sit_down-requires-clause-holds g t c κs within = rest-holds c.args.session c.args.categories.now c.pop.new.self.items c.args.row.items c.in-Some.seat c.in-Some.ensures.items c.requires.fits c.requires.holds

pub new-desk-requires-clause-place : goal.new-desk-requires-clause-place
new-desk-requires-clause-place g t c =
    let n : c.len-number.result ≡ length c.pop.new.self.items = omega (arith, c.len-number.ensures, c.pop.new.self.ok.0) in
    place-here c.args.session c.args.categories.now c.pop.new.self.items c.args.row.items c.in-Some.seat c.in-Some.ensures.items c.requires.fits c.len-number.result n c.index-categories-number.result c.index-categories-number.is

pub new-desk-requires-clause-label : goal.new-desk-requires-clause-label
new-desk-requires-clause-label g t c =
    let n : c.len-number.result ≡ length c.pop.new.self.items = omega (arith, c.len-number.ensures, c.pop.new.self.ok.0) in
    label-here c.args.session c.args.categories.now c.pop.new.self.items c.args.row.items c.in-Some.seat c.in-Some.ensures.items c.requires.fits c.len-number.result n c.index-categories-number.result c.index-categories-number.is

pub with_memory-requires : goal.with_memory-requires
with_memory-requires g t c =
    let n : c.len-number.result ≡ length c.pop.new.self.items = omega (arith, c.len-number.ensures, c.pop.new.self.ok.0) in
    let s = c.in-Some.seat in
    let x = c.index-categories-number.result in
    let memory = c.in_ok-memory.ensures ∙ c.memory.ensures in
    let desk = c.new-desk.ensures in
    subst HoldsThere (λ i. remembering (sym desk.offer i) c.args.session (sym desk.seen i) (sym memory i) (sym desk.hand i))
    (holds-here c.args.session c.args.categories.now c.pop.new.self.items c.args.row.items s c.in-Some.ensures.items c.requires.fits c.len-number.result n x c.index-categories-number.is c.requires.holds)

pub returns : goal.returns
returns g t c =
    let n : c.len-number.result ≡ length c.pop.new.self.items = omega (arith, c.len-number.ensures, c.pop.new.self.ok.0) in
    let s = c.in-Some.seat in
    let x = c.index-categories-number.result in
    let memory = c.in_ok-memory.ensures ∙ c.memory.ensures in
    let desk = c.new-desk.ensures in
    let seat : c.with_memory.result ≡ sitting c.args.session x s = c.with_memory.ensures.is ∙ (λ i. remembering (desk.offer i) c.args.session (desk.seen i) (memory i) (desk.hand i)) in
    c.in_ok-push.ensures.items ∙ ap (λ seats. seats ++ c.with_memory.result ∷ []) c.in_ok-seats.ensures ∙ ap (λ (a : AtSeat). sat_down c.args.session c.args.categories.now c.pop.new.self.items ++ a ∷ []) seat
    ∙ sym (one-more-seat c.args.session c.args.categories.now c.pop.new.self.items c.args.row.items s c.in-Some.ensures.items c.requires.fits c.len-number.result n x c.index-categories-number.is)
