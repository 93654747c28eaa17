use Rattle.std.proofs.Common.{sym, ◌∙◌}
use Rattle.cap_literals.specs.Reading.{starts_arg}
use Rattle.cap_reading.proofs.Loops.{fails_so, loop_more, loop_fails, loop_done, loop_shrinks}
use Rattle.cap_literals.proofs.Laws.{law_arg, arg_begins}
use Rattle.cap_parser.proofs.commands.more_args.Goals as goal

pub returns-in-Err : goal.returns-in-Err
returns-in-Err c = fails_so c.in-Err.error _ _ (λ rest e. loop_fails starts_arg law_arg arg_begins c.values.args c.values.rest.now rest _ (sym c.starts_arg.ensures ∙ c.values-test.true) e c.values.invariant) c.in-Err.ensures

pub values-smaller : goal.values-smaller
values-smaller c = loop_shrinks starts_arg law_arg arg_begins c.values.rest.now c.in-Ok.read.0 c.in-Ok.read.1.now c.in-Ok.ensures

pub values-preserved : goal.values-preserved
values-preserved c =
    rw c.in_ok-push.ensures (loop_more starts_arg law_arg arg_begins c.values.args c.values.rest.now c.in-Ok.read.0 c.in-Ok.read.1.now _ (sym c.starts_arg.ensures ∙ c.values-test.true) c.in-Ok.ensures c.values.invariant)

pub returns : goal.returns
returns c = loop_done starts_arg law_arg arg_begins c.values.args c.values.rest.now _ (sym c.starts_arg.ensures ∙ c.values-test.false) c.values.invariant
