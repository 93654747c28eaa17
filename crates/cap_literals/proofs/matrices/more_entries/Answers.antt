use Rattle.std.proofs.Common.{sym, ◌∙◌}
use Rattle.std.proofs.lemmas.Result.{err_from_is_err_and}
use Rattle.cap_literals.specs.Reading.{starts_entry}
use Rattle.cap_reading.proofs.Loops.{fails_so, loop_more, loop_fails, loop_done, loop_shrinks}
use Rattle.cap_literals.proofs.Laws.{law_entry, entry_begins}
use Rattle.cap_literals.proofs.matrices.more_entries.Goals as goal

pub returns-in_err-entry : goal.returns-in_err-entry
returns-in_err-entry c =
    let p = err_from_is_err_and c.from_residual.result c.from_residual.ensures.1 in
    rw (p.1, p.2) (fails_so c.in_err-entry.field-0.0 _ _ (λ rest e. loop_fails starts_entry law_entry entry_begins c.entries.row c.entries.rest.now rest _ (sym c.starts_entry.ensures ∙ c.entries-test.true) e c.entries.invariant) c.in_err-entry.ensures)

pub entries-smaller : goal.entries-smaller
entries-smaller c = loop_shrinks starts_entry law_entry entry_begins c.entries.rest.now c.in_ok-entry.entry c.in_ok-entry.after.now c.in_ok-entry.ensures

pub entries-preserved : goal.entries-preserved
entries-preserved c =
    rw c.in_ok-push.ensures (loop_more starts_entry law_entry entry_begins c.entries.row c.entries.rest.now c.in_ok-entry.entry c.in_ok-entry.after.now _ (sym c.starts_entry.ensures ∙ c.entries-test.true) c.in_ok-entry.ensures c.entries.invariant)

pub returns : goal.returns
returns c = loop_done starts_entry law_entry entry_begins c.entries.row c.entries.rest.now _ (sym c.starts_entry.ensures ∙ c.entries-test.false) c.entries.invariant
