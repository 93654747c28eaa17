use Rattle.std.proofs.Common.{◌+◌, drop, ap, sym, ◌∙◌}
use Rattle.cap_history.specs.Reading.{read, registered}
use Rattle.cap_top_text.proofs.Steps.{rest_more, left_at_end}
use Rattle.cap_top_text.proofs.lines.registrations.Goals as goal

pub entries-preserved : goal.entries-preserved
entries-preserved c =
    let entries = c.args.entries.now in
    let i = c.entries.entry-index in
    ap (λ w. read registered w (drop (i + 1) entries)) c.registered-regs.ensures
    ∙ ap (read registered c.entries.regs.weights) (sym (rest_more entries i c.entry-item.result c.entries-test.true c.entry-item.is))
    ∙ c.entries.invariant

pub returns : goal.returns
returns c =
    left_at_end (read registered c.entries.regs.weights) _ c.args.entries.now c.entries.entry-index c.entries-test.false c.entries.invariant
