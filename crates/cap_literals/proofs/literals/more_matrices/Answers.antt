use Rattle.std.proofs.Common.{sym, ◌∙◌}
use Rattle.std.proofs.lemmas.Result.{err_from_is_err_and}
use Rattle.cap_grammar.specs.declared.symbol.Fixed.TheVariants as word
use Rattle.cap_literals.specs.Reading.{is}
use Rattle.cap_reading.proofs.Loops.{fails_so, loop_more, loop_fails, loop_done, loop_shrinks}
use Rattle.cap_literals.proofs.Laws.{law_rows, rows_begins}
use Rattle.cap_literals.proofs.literals.more_matrices.Goals as goal

pub returns-in_err-rows : goal.returns-in_err-rows
returns-in_err-rows c =
    let p = err_from_is_err_and c.from_residual.result c.from_residual.ensures.1 in
    rw (p.1, p.2) (fails_so c.in_err-rows.field-0.0 _ _ (λ rest e. loop_fails (is word.Open) law_rows rows_begins c.matrices.matrices c.matrices.rest.now rest _ (sym c.starts.ensures ∙ c.matrices-test.true) e c.matrices.invariant) c.in_err-rows.ensures)

pub matrices-smaller : goal.matrices-smaller
matrices-smaller c = loop_shrinks (is word.Open) law_rows rows_begins c.matrices.rest.now c.in_ok-rows.rows c.in_ok-rows.after.now c.in_ok-rows.ensures

pub matrices-preserved : goal.matrices-preserved
matrices-preserved c =
    rw c.in_ok-push.ensures (loop_more (is word.Open) law_rows rows_begins c.matrices.matrices c.matrices.rest.now c.in_ok-rows.rows c.in_ok-rows.after.now _ (sym c.starts.ensures ∙ c.matrices-test.true) c.in_ok-rows.ensures c.matrices.invariant)

pub returns : goal.returns
returns c = loop_done (is word.Open) law_rows rows_begins c.matrices.matrices c.matrices.rest.now _ (sym c.starts.ensures ∙ c.matrices-test.false) c.matrices.invariant
