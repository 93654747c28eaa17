use Rattle.cap_session.proofs.Going.{going-first, going-on}
use Rattle.cap_session.proofs.course.run_commands.Goals as goal

pub commands-init : goal.commands-init
commands-init g c = going-first g.D.Desk.others c.args.session c.args.course.now c.args.commands.now c.requires.comes

pub commands-preserved : goal.commands-preserved
commands-preserved g c =
    going-on g.D.Desk.others c.args.session c.args.course.now c.args.commands.now c.commands.command-index c.commands.course c.command-item.result c.commands-test.true c.command-item.is c.commands.invariant c.run_one.new.course c.in_ok-run_one.ensures
