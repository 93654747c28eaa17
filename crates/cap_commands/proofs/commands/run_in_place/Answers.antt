use Rattle.std.specs.Prelude.{slice_index_or}
use Rattle.std.proofs.lemmas.Option.{slice_get-get_or}
use Rattle.cap_commands.proofs.Running.{in_place_clause}
use Rattle.cap_commands.proofs.commands.run_in_place.Goals as goal

pub run_alone-requires-clause-comes : goal.run_alone-requires-clause-comes
run_alone-requires-clause-comes g c = (c.requires.comes (slice_index_or c.args.seats.now c.args.place c.index-seats-place.result) (slice_get-get_or c.args.seats.now c.args.place c.index-seats-place.result c.requires.inside)).comes

pub run_alone-requires-clause-offer : goal.run_alone-requires-clause-offer
run_alone-requires-clause-offer g c = (c.requires.comes (slice_index_or c.args.seats.now c.args.place c.index-seats-place.result) (slice_get-get_or c.args.seats.now c.args.place c.index-seats-place.result c.requires.inside)).offer

pub run_alone-requires-clause-taken : goal.run_alone-requires-clause-taken
run_alone-requires-clause-taken g c = (c.requires.comes (slice_index_or c.args.seats.now c.args.place c.index-seats-place.result) (slice_get-get_or c.args.seats.now c.args.place c.index-seats-place.result c.requires.inside)).taken

pub run_alone-requires-clause-holds : goal.run_alone-requires-clause-holds
run_alone-requires-clause-holds g c = (c.requires.comes (slice_index_or c.args.seats.now c.args.place c.index-seats-place.result) (slice_get-get_or c.args.seats.now c.args.place c.index-seats-place.result c.requires.inside)).holds

pub returns : goal.returns
returns g c =
    let s = slice_index_or c.args.seats.now c.args.place c.index-seats-place.result in
    in_place_clause g.D.Desk.others c.args.standing.now c.args.made.now c.args.seats.now c.args.place c.args.command.now c.args.events.now.items s c.run_alone.new.seat
    (slice_get-get_or c.args.seats.now c.args.place c.index-seats-place.result c.requires.inside) c.run_alone.new.events.items c.run_alone.result c.run_alone.ensures
