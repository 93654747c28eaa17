use Rattle.std.proofs.Common.{sym, ◌∙◌}
use Rattle.cap_literals.specs.Reading.{is_name}
use Rattle.cap_reading.proofs.Loops.{fails_so, loop_more, loop_fails, loop_done, loop_shrinks}
use Rattle.cap_literals.proofs.Laws.{law_name, name_begins}
use Rattle.cap_parser.proofs.blocks.more_names.Goals as goal

pub returns-in-Err : goal.returns-in-Err
returns-in-Err c = fails_so c.in-Err.error _ _ (λ rest e. loop_fails is_name law_name name_begins c.names.names c.names.rest.now rest _ (sym c.starts_name.ensures ∙ c.names-test.true) e c.names.invariant) c.in-Err.ensures

pub names-smaller : goal.names-smaller
names-smaller c = loop_shrinks is_name law_name name_begins c.names.rest.now c.in-Ok.read.0 c.in-Ok.read.1.now c.in-Ok.ensures

pub names-preserved : goal.names-preserved
names-preserved c =
    rw c.in_ok-push.ensures (loop_more is_name law_name name_begins c.names.names c.names.rest.now c.in-Ok.read.0 c.in-Ok.read.1.now _ (sym c.starts_name.ensures ∙ c.names-test.true) c.in-Ok.ensures c.names.invariant)

pub returns : goal.returns
returns c = loop_done is_name law_name name_begins c.names.names c.names.rest.now _ (sym c.starts_name.ensures ∙ c.names-test.false) c.names.invariant
