use Rattle.cap_session.proofs.Going.{Going}
use Rattle.cap_session.proofs.course.run_commands.Given as goal

abbrev pub invariant-commands : goal.invariant-commands
invariant-commands g l = Going g.D.Desk.others l.session l.fn.course l.commands l.command-index l.course
