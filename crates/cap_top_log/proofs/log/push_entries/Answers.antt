use Rattle.std.proofs.Common.{◌+◌, ◌++◌, drop, ap, sym, ◌∙◌, refl, add-one}
use Rattle.cap_top_text.proofs.Steps.{rest_more, written, ended}
use Rattle.cap_top_log.specs.Log.{entry_line, entries_text}
use Rattle.cap_top_log.proofs.log.push_entries.Goals as goal

pub loop-place-preserved : goal.loop-place-preserved
loop-place-preserved c =
    let entries = c.args.entries.now in
    let i = c.loop-place.place in
    let e = c.index-entries-place.result in
    written c.loop-place.out.items _ _ (entry_line i e) (entries_text (i + 1) (drop (i + 1) entries)) (entries_text i (drop i entries)) c.loop-place.invariant c.in_ok-push_entry.ensures
    (ap (entries_text i) (rest_more entries i e c.loop-place-test.true c.index-entries-place.is) ∙ ap (λ n. entry_line i e ++ entries_text n (drop (i + 1) entries)) (sym (add-one i)))

pub returns : goal.returns
returns c =
    let i = c.loop-place.place in
    ended (entries_text i) refl c.loop-place.out.items _ c.args.entries.now i c.loop-place-test.false c.loop-place.invariant
