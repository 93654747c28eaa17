use Rattle.std.proofs.Common.{sym, ◌∙◌}
use Rattle.std.proofs.lemmas.Result.{err_from_is_err_and}
use Rattle.cap_grammar.specs.declared.symbol.Fixed.TheVariants as word
use Rattle.cap_literals.specs.Reading.{is}
use Rattle.cap_reading.proofs.Loops.{fails_so, loop_more, loop_fails, loop_done, loop_shrinks}
use Rattle.cap_literals.proofs.Laws.{law_next_row, next_row_begins}
use Rattle.cap_literals.proofs.matrices.more_rows.Goals as goal

pub returns-in_err-row : goal.returns-in_err-row
returns-in_err-row c =
    let p = err_from_is_err_and c.from_residual.result c.from_residual.ensures.1 in
    rw (p.1, p.2) (fails_so c.in_err-row.field-0.0 _ _ (λ rest e. loop_fails (is word.Semicolon) law_next_row next_row_begins c.rows.rows c.rows.rest.now rest _ (sym c.starts.ensures ∙ c.rows-test.true) e c.rows.invariant) c.in_err-row.ensures)

pub rows-smaller : goal.rows-smaller
rows-smaller c = loop_shrinks (is word.Semicolon) law_next_row next_row_begins c.rows.rest.now c.in_ok-row.row c.in_ok-row.after.now c.in_ok-row.ensures

pub rows-preserved : goal.rows-preserved
rows-preserved c =
    rw c.in_ok-push.ensures (loop_more (is word.Semicolon) law_next_row next_row_begins c.rows.rows c.rows.rest.now c.in_ok-row.row c.in_ok-row.after.now _ (sym c.starts.ensures ∙ c.rows-test.true) c.in_ok-row.ensures c.rows.invariant)

pub returns : goal.returns
returns c = loop_done (is word.Semicolon) law_next_row next_row_begins c.rows.rows c.rows.rest.now _ (sym c.starts.ensures ∙ c.rows-test.false) c.rows.invariant
