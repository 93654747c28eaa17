use Rattle.std.proofs.Common.{◌≤◌, ◌++◌, length, drop, ap, refl, ◌∙◌, arith}
use Rattle.std.specs.Prelude.{zip}
use Rattle.std.proofs.lemmas.List.{length_push}
use Rattle.std.proofs.lemmas.Slice.Zip.{zip_turn, zip_end, length-zip}
use Rattle.cap_top_text.proofs.Steps.{pairs_more, written, ended}
use Rattle.cap_top_log.specs.Log.{history_text, histories_text}
use Rattle.cap_top_log.proofs.log.push_histories.Goals as goal

pub histories-preserved : goal.histories-preserved
histories-preserved c =
    let names = c.args.names.now in
    let histories = c.args.histories.now in
    let turn = zip_turn names histories c.histories.yielded c.into_iter-name-iterator.result c.histories.name-iterator c.next.new.self c.next.result (cc) (cc) c.histories.yielded_by (c.in-Some.name, c.in-Some.history) c.in-Some.is c.next.ensures.steps in
    let next = length_push c.histories.yielded (c.in-Some.name, c.in-Some.history) in
    let name = c.in-Some.name.now in
    let history = c.in-Some.history.now in
    let i = length c.histories.yielded in
    let pairs = zip names histories in
    written c.histories.out.items _ _ (history_text name history.entries) _ (histories_text (drop i pairs)) c.histories.invariant
    (c.in_ok-push_history.ensures ∙ ap (λ es. c.histories.out.items ++ history_text name es) c.as_slice.ensures)
    (ap histories_text (pairs_more names histories i _ name history next turn))

pub returns : goal.returns
returns c =
    let pairs = zip c.args.names.now c.args.histories.now in
    let end = zip_end c.args.names.now c.args.histories.now c.histories.yielded c.into_iter-name-iterator.result c.histories.name-iterator c.next.new.self c.next.result (cc) (cc) c.histories.yielded_by c.in-None.is c.next.ensures.steps in
    let all : length pairs ≤ length c.histories.yielded = omega (arith, end, length-zip c.args.names.now c.args.histories.now) in
    ended histories_text refl c.histories.out.items _ pairs (length c.histories.yielded) all c.histories.invariant
