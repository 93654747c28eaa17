use Rattle.std.proofs.Common.{sym, ◌∙◌}
use Rattle.cap_commands.proofs.Running.{names_arrow, lacks_runs, end_runs}
use Rattle.cap_commands.proofs.commands.run_command.Goals as goal

pub returns-in-Some : goal.returns-in-Some
returns-in-Some g c = lacks_runs g.D.Desk.others g.met.D.Desk.are_others c.args.standing.now c.args.seats.now c.args.command.now c.args.events.now.items c.in-Some.name (sym c.lacking.ensures ∙ c.in-Some.is)

pub run_end-requires : goal.run_end-requires
run_end-requires g c = names_arrow c.args.standing.now c.args.seats.now c.args.command.now c.requires.prepared (sym c.category_named.ensures ∙ c.in-None.is) (sym c.in_default.ensures)

pub returns-in-None : goal.returns-in-None
returns-in-None g c = end_runs g.D.Desk.others g.met.D.Desk.are_others c.args.standing.now c.args.seats.now c.args.events.now.items c.args.command.now c.run_end.result (sym c.in_default.ensures) c.run_end.ensures
