use Rattle.std.proofs.Common.{sym, ◌∙◌}
use Rattle.std.proofs.lemmas.Result.{err_from_is_err_and}
use Rattle.cap_grammar.specs.declared.symbol.Fixed.TheVariants as word
use Rattle.cap_literals.specs.Reading.{is}
use Rattle.cap_reading.proofs.Loops.{fails_so, loop_more, loop_fails, loop_done, loop_shrinks}
use Rattle.cap_literals.proofs.Laws.{law_next_multiple, next_multiple_begins}
use Rattle.cap_literals.proofs.combos.more_multiples.Goals as goal

pub returns-in_err-term : goal.returns-in_err-term
returns-in_err-term c =
    let p = err_from_is_err_and c.from_residual.result c.from_residual.ensures.1 in
    rw (p.1, p.2) (fails_so c.in_err-term.field-0.0 _ _ (λ rest e. loop_fails (is word.Plus) law_next_multiple next_multiple_begins c.multiples.terms c.multiples.rest.now rest _ (sym c.starts.ensures ∙ c.multiples-test.true) e c.multiples.invariant) c.in_err-term.ensures)

pub multiples-smaller : goal.multiples-smaller
multiples-smaller c = loop_shrinks (is word.Plus) law_next_multiple next_multiple_begins c.multiples.rest.now c.in_ok-term.term c.in_ok-term.after.now c.in_ok-term.ensures

pub multiples-preserved : goal.multiples-preserved
multiples-preserved c =
    rw c.in_ok-push.ensures (loop_more (is word.Plus) law_next_multiple next_multiple_begins c.multiples.terms c.multiples.rest.now c.in_ok-term.term c.in_ok-term.after.now _ (sym c.starts.ensures ∙ c.multiples-test.true) c.in_ok-term.ensures c.multiples.invariant)

pub returns : goal.returns
returns c = loop_done (is word.Plus) law_next_multiple next_multiple_begins c.multiples.terms c.multiples.rest.now _ (sym c.starts.ensures ∙ c.multiples-test.false) c.multiples.invariant
