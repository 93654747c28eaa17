use Rattle.std.proofs.Common.{sym, ◌∙◌}
use Rattle.cap_grammar.specs.declared.symbol.Fixed.TheVariants as word
use Rattle.cap_literals.specs.Reading.{is}
use Rattle.cap_reading.proofs.Loops.{fails_so, loop_more, loop_fails, loop_done, loop_shrinks}
use Rattle.cap_literals.proofs.Laws.{law_next_name, next_name_begins}
use Rattle.cap_literals.proofs.lists.more_factors.Goals as goal

pub returns-in-Err : goal.returns-in-Err
returns-in-Err c = fails_so c.in-Err.error _ _ (λ rest e. loop_fails (is word.Star) law_next_name next_name_begins c.factors.names c.factors.rest.now rest _ (sym c.starts.ensures ∙ c.factors-test.true) e c.factors.invariant) c.in-Err.ensures

pub factors-smaller : goal.factors-smaller
factors-smaller c = loop_shrinks (is word.Star) law_next_name next_name_begins c.factors.rest.now c.in-Ok.read.0 c.in-Ok.read.1.now c.in-Ok.ensures

pub factors-preserved : goal.factors-preserved
factors-preserved c =
    rw c.in_ok-push.ensures (loop_more (is word.Star) law_next_name next_name_begins c.factors.names c.factors.rest.now c.in-Ok.read.0 c.in-Ok.read.1.now _ (sym c.starts.ensures ∙ c.factors-test.true) c.in-Ok.ensures c.factors.invariant)

pub returns : goal.returns
returns c = loop_done (is word.Star) law_next_name next_name_begins c.factors.names c.factors.rest.now _ (sym c.starts.ensures ∙ c.factors-test.false) c.factors.invariant
