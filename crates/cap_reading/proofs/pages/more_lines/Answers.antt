use Rattle.std.proofs.Common.{sym, ◌∙◌}
use Rattle.std.proofs.lemmas.Result.{err_from_is_err_and}
use Rattle.cap_reading.specs.Example.{starts_line}
use Rattle.cap_reading.proofs.Loops.{loop_more, loop_fails, loop_done, loop_shrinks, fails_so}
use Rattle.cap_reading.proofs.ExampleLaws.{law_line, line_begins}
use Rattle.cap_reading.proofs.pages.more_lines.Goals as goal

pub returns-in_err-line : goal.returns-in_err-line
returns-in_err-line c =
    let p = err_from_is_err_and c.from_residual.result c.from_residual.ensures.1 in
    rw (p.1, p.2) (fails_so c.in_err-line.field-0.0 _ _ (λ rest e. loop_fails starts_line law_line line_begins c.lines.lines c.lines.rest.now rest _ (sym c.starts_line.ensures ∙ c.lines-test.true) e c.lines.invariant) c.in_err-line.ensures)

pub lines-smaller : goal.lines-smaller
lines-smaller c = loop_shrinks starts_line law_line line_begins c.lines.rest.now c.in_ok-line.line c.in_ok-line.after.now c.in_ok-line.ensures

pub lines-preserved : goal.lines-preserved
lines-preserved c =
    rw c.in_ok-push.ensures (loop_more starts_line law_line line_begins c.lines.lines c.lines.rest.now c.in_ok-line.line c.in_ok-line.after.now _ (sym c.starts_line.ensures ∙ c.lines-test.true) c.in_ok-line.ensures c.lines.invariant)

pub returns : goal.returns
returns c = loop_done starts_line law_line line_begins c.lines.lines c.lines.rest.now _ (sym c.starts_line.ensures ∙ c.lines-test.false) c.lines.invariant
