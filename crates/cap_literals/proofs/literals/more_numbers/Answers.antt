use Rattle.std.proofs.Common.{sym, ◌∙◌}
use Rattle.std.proofs.lemmas.Result.{err_from_is_err_and}
use Rattle.cap_literals.specs.Reading.{is_number}
use Rattle.cap_reading.proofs.Loops.{fails_so, loop_more, loop_fails, loop_done, loop_shrinks}
use Rattle.cap_literals.proofs.Laws.{law_number, number_begins}
use Rattle.cap_literals.proofs.literals.more_numbers.Goals as goal

pub returns-in_err-number : goal.returns-in_err-number
returns-in_err-number c =
    let p = err_from_is_err_and c.from_residual.result c.from_residual.ensures.1 in
    rw (p.1, p.2) (fails_so c.in_err-number.field-0.0 _ _ (λ rest e. loop_fails is_number law_number number_begins c.numbers.numbers c.numbers.rest.now rest _ (sym c.starts_number.ensures ∙ c.numbers-test.true) e c.numbers.invariant) c.in_err-number.ensures)

pub numbers-smaller : goal.numbers-smaller
numbers-smaller c = loop_shrinks is_number law_number number_begins c.numbers.rest.now c.in_ok-number.number c.in_ok-number.after.now c.in_ok-number.ensures

pub numbers-preserved : goal.numbers-preserved
numbers-preserved c =
    rw c.in_ok-push.ensures (loop_more is_number law_number number_begins c.numbers.numbers c.numbers.rest.now c.in_ok-number.number c.in_ok-number.after.now _ (sym c.starts_number.ensures ∙ c.numbers-test.true) c.in_ok-number.ensures c.numbers.invariant)

pub returns : goal.returns
returns c = loop_done is_number law_number number_begins c.numbers.numbers c.numbers.rest.now _ (sym c.starts_number.ensures ∙ c.numbers-test.false) c.numbers.invariant
