use Rattle.std.proofs.Common.{◌++◌, ap, sym, ◌∙◌, append_assoc}
use Rattle.std.proofs.lemmas.Result.{on_ok_weaker}
use Rattle.cap_top_log.specs.Log.{registered_text, reply_text}
use Rattle.cap_top_log.proofs.replies.push_reply.Goals as goal

pub returns-in_ok-push_text-in-NotOffered : goal.returns-in_ok-push_text-in-NotOffered
returns-in_ok-push_text-in-NotOffered c =
    let out = c.args.out.now.items in
    let event = c.args.event.now in
    on_ok_weaker c.push_registered.result
    (λ grown. grown ∙ ap (λ l. l ++ registered_text event) c.in_ok-push_text-in-NotOffered.ensures ∙ append_assoc out _ (registered_text event) ∙ ap (λ r. out ++ reply_text event r) (sym c.in-NotOffered.is))
    c.push_registered.ensures
