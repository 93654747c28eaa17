use Rattle.std.proofs.Common.{sym}
use Rattle.cap_commands.proofs.Running.{in_bounds, comes_to, place_clause}
use Rattle.cap_commands.proofs.commands.run_in_category.Goals as goal

pub run_in_place-requires-clause-inside : goal.run_in_place-requires-clause-inside
run_in_place-requires-clause-inside g c = in_bounds c.args.standing.now c.args.seats.now c.args.command.now c.requires.prepared c.args.name c.in-Some.made.now c.requires.named (sym c.in-Some.ensures) c.requires.lacks

pub run_in_place-requires-clause-comes : goal.run_in_place-requires-clause-comes
run_in_place-requires-clause-comes g c = comes_to c.args.standing.now c.args.seats.now c.args.command.now c.requires.prepared c.args.name c.in-Some.made.now c.requires.named (sym c.in-Some.ensures) c.requires.lacks

pub returns : goal.returns
returns g c =
    place_clause g.D.Desk.others g.met.D.Desk.are_others c.args.standing.now c.args.seats.now c.args.command.now c.args.events.now.items c.args.name c.in-Some.made.now c.requires.named (sym c.in-Some.ensures) c.requires.lacks
    c.run_in_place.new.seats c.run_in_place.new.events.items c.run_in_place.result c.run_in_place.ensures
