use Rattle.std.proofs.Common.{sym, ◌∙◌}
use Rattle.std.proofs.lemmas.Result.{err_from_is_err_and}
use Rattle.cap_reading.specs.Example.{is}
use Rattle.cap_reading.proofs.Loops.{loop_more, loop_fails, loop_done, loop_shrinks, fails_so}
use Rattle.cap_reading.proofs.ExampleLaws.{law_next_part, next_part_begins}
use Rattle.cap_reading.proofs.example.more_parts.Goals as goal

pub returns-in_err-part : goal.returns-in_err-part
returns-in_err-part c =
    let p = err_from_is_err_and c.from_residual.result c.from_residual.ensures.1 in
    rw (p.1, p.2) (fails_so c.in_err-part.field-0.0 _ _ (λ rest e. loop_fails (is 44) law_next_part next_part_begins c.parts.parts c.parts.rest.now rest _ (sym c.starts.ensures ∙ c.parts-test.true) e c.parts.invariant) c.in_err-part.ensures)

pub parts-smaller : goal.parts-smaller
parts-smaller c = loop_shrinks (is 44) law_next_part next_part_begins c.parts.rest.now c.in_ok-part.part c.in_ok-part.after.now c.in_ok-part.ensures

pub parts-preserved : goal.parts-preserved
parts-preserved c =
    rw c.in_ok-push.ensures (loop_more (is 44) law_next_part next_part_begins c.parts.parts c.parts.rest.now c.in_ok-part.part c.in_ok-part.after.now _ (sym c.starts.ensures ∙ c.parts-test.true) c.in_ok-part.ensures c.parts.invariant)

pub returns : goal.returns
returns c = loop_done (is 44) law_next_part next_part_begins c.parts.parts c.parts.rest.now _ (sym c.starts.ensures ∙ c.parts-test.false) c.parts.invariant
