use Rattle.std.proofs.Common.{◌++◌, ◌∷◌, [], slice_index_or, sym, ap, ◌∙◌}
use Rattle.cap_keys.proofs.OnceEach.{first-mention, later-mention}
use Rattle.cap_keys.proofs.mentions.distinct.Goals as goal
use Rattle.cap_keys.proofs.mentions.distinct.Goals.{then-not-is_among+in_ok-push, else-not-is_among}

pub loop-i-preserved : goal.loop-i-preserved
loop-i-preserved c =
    let hs = c.args.handles.now in
    let h = slice_index_or hs c.loop-i.i (record { 0 = 0 }) in
    elim c.if-not-is_among.branch [
      | then-not-is_among+in_ok-push w ↦ ap (λ v. v.items) w.all-is ∙ (w.in_ok-push.ensures.items ∙ (ap (λ xs. xs ++ h ∷ []) c.loop-i.invariant ∙ sym (first-mention hs c.loop-i.i (record { 0 = 0 }) c.loop-i-test.true c.is_among.result c.is_among.ensures w.if-not-is_among.true)))
      | else-not-is_among w ↦ ap (λ v. v.items) w.all-is ∙ (c.loop-i.invariant ∙ sym (later-mention hs c.loop-i.i (record { 0 = 0 }) c.loop-i-test.true c.is_among.result c.is_among.ensures w.if-not-is_among.false))
    ]
