use Rattle.std.proofs.Common.{◌+◌, drop, map, ap, sym, ◌∙◌}
use Rattle.cap_history.specs.Reading.{read, more_objects}
use Rattle.cap_top_text.proofs.Steps.{rest_more, left_at_end}
use Rattle.cap_top_text.proofs.text.objects_in.Goals as goal

pub entries-preserved : goal.entries-preserved
entries-preserved c =
    let entries = c.args.entries.now in
    let i = c.entries.entry-index in
    ap (λ w. read more_objects w (drop (i + 1) entries)) c.in_ok-with_objects.ensures
    ∙ ap (read more_objects (map (λ x. x.now) c.entries.objects.items)) (sym (rest_more entries i c.entry-item.result c.entries-test.true c.entry-item.is))
    ∙ c.entries.invariant

pub returns : goal.returns
returns c =
    left_at_end (read more_objects (map (λ x. x.now) c.entries.objects.items)) _ c.args.entries.now c.entries.entry-index c.entries-test.false c.entries.invariant
