use Rattle.std.proofs.Common.{◌++◌, ◌∷◌, [], refl, sym, subst}
use Rattle.std.specs.List.{All, AllZip}
use Rattle.cap_commands.specs.Seats.{AtSeat}
use Rattle.cap_session.specs.declared.jobs.Seated.{Seated}
use Rattle.cap_session.specs.Jobs.{CanSit, SatDown}
use Rattle.cap_session.proofs.Ends.{all-last, zip-more}
use Rattle.cap_session.proofs.SittingDown.{fit-inside}
use Rattle.cap_session.proofs.jobs.+seat_all.Goals as goal

pub sit_down-requires-clause-inside : goal.sit_down-requires-clause-inside
sit_down-requires-clause-inside g t c κs within =
    let R = CanSit c.args.categories.now in
    let one : R c.in-Some.field-0 = all-last R c.pop.new.self.items c.in-Some.field-0 (subst (All R) c.in-Some.ensures.items c.requires) in
    fit-inside c.args.categories.now c.in-Some.field-0.row.items one.fits

pub sit_down-requires-clause-holds : goal.sit_down-requires-clause-holds
sit_down-requires-clause-holds g t c κs within =
    let R = CanSit c.args.categories.now in
    let one : R c.in-Some.field-0 = all-last R c.pop.new.self.items c.in-Some.field-0 (subst (All R) c.in-Some.ensures.items c.requires) in
    one.holds

pub returns : goal.returns
returns g t c =
    let R = SatDown c.args.categories.now in
    let s : Seated AtSeat = record { session = c.in-Some.field-0.session; seats = c.in_ok-seats.seats } in
    let one : R c.in-Some.field-0 s = record { session = refl; seats = c.in_ok-seats.ensures } in
    subst (λ js. AllZip R js c.push.new.self.items) (sym c.in-Some.ensures.items)
    (subst (AllZip R (c.pop.new.self.items ++ c.in-Some.field-0 ∷ [])) (sym c.in_ok-push.ensures.items)
    (zip-more R c.pop.new.self.items c.in_ok-all.all.items c.in-Some.field-0 s c.in_ok-all.ensures one))
