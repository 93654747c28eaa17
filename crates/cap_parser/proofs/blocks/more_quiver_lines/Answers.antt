use Rattle.std.proofs.Common.{sym, ◌∙◌}
use Rattle.cap_parser.specs.Blocks.{starts_quiver_line}
use Rattle.cap_reading.proofs.Loops.{fails_so, loop_more, loop_fails, loop_done, loop_shrinks}
use Rattle.cap_parser.proofs.BlockLaws.{law_quiver_line, quiver_line_begins}
use Rattle.cap_parser.proofs.blocks.more_quiver_lines.Goals as goal

pub returns-in-Err : goal.returns-in-Err
returns-in-Err c = fails_so c.in-Err.error _ _ (λ rest e. loop_fails starts_quiver_line law_quiver_line quiver_line_begins c.lines.lines c.lines.rest.now rest _ (sym c.starts_quiver_line.ensures ∙ c.lines-test.true) e c.lines.invariant) c.in-Err.ensures

pub lines-smaller : goal.lines-smaller
lines-smaller c = loop_shrinks starts_quiver_line law_quiver_line quiver_line_begins c.lines.rest.now c.in-Ok.read.0 c.in-Ok.read.1.now c.in-Ok.ensures

pub lines-preserved : goal.lines-preserved
lines-preserved c =
    rw c.in_ok-push.ensures (loop_more starts_quiver_line law_quiver_line quiver_line_begins c.lines.lines c.lines.rest.now c.in-Ok.read.0 c.in-Ok.read.1.now _ (sym c.starts_quiver_line.ensures ∙ c.lines-test.true) c.in-Ok.ensures c.lines.invariant)

pub returns : goal.returns
returns c = loop_done starts_quiver_line law_quiver_line quiver_line_begins c.lines.lines c.lines.rest.now _ (sym c.starts_quiver_line.ensures ∙ c.lines-test.false) c.lines.invariant
