use Rattle.std.proofs.Common.{sym, ◌∙◌}
use Rattle.std.proofs.lemmas.Result.{err_from_is_err_and}
use Rattle.cap_literals.specs.Reading.{starts_int}
use Rattle.cap_reading.proofs.Loops.{fails_so, loop_more, loop_fails, loop_done, loop_shrinks}
use Rattle.cap_literals.proofs.Laws.{law_int, int_begins}
use Rattle.cap_literals.proofs.matrices.more_ints.Goals as goal

pub returns-in_err-int : goal.returns-in_err-int
returns-in_err-int c =
    let p = err_from_is_err_and c.from_residual.result c.from_residual.ensures.1 in
    rw (p.1, p.2) (fails_so c.in_err-int.field-0.0 _ _ (λ rest e. loop_fails starts_int law_int int_begins c.ints.ints c.ints.rest.now rest _ (sym c.starts_int.ensures ∙ c.ints-test.true) e c.ints.invariant) c.in_err-int.ensures)

pub ints-smaller : goal.ints-smaller
ints-smaller c = loop_shrinks starts_int law_int int_begins c.ints.rest.now c.in_ok-int.int c.in_ok-int.after.now c.in_ok-int.ensures

pub ints-preserved : goal.ints-preserved
ints-preserved c =
    rw c.in_ok-push.ensures (loop_more starts_int law_int int_begins c.ints.ints c.ints.rest.now c.in_ok-int.int c.in_ok-int.after.now _ (sym c.starts_int.ensures ∙ c.ints-test.true) c.in_ok-int.ensures c.ints.invariant)

pub returns : goal.returns
returns c = loop_done starts_int law_int int_begins c.ints.ints c.ints.rest.now _ (sym c.starts_int.ensures ∙ c.ints-test.false) c.ints.invariant
