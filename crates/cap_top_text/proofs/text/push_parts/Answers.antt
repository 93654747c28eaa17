use Rattle.std.proofs.Common.{◌≤◌, length, refl, arith}
use Rattle.std.specs.Prelude.{zip}
use Rattle.std.proofs.lemmas.List.{length_push}
use Rattle.std.proofs.lemmas.Slice.Zip.{zip_turn, zip_end, length-zip}
use Rattle.cap_top_text.specs.Text.{parts_text, behind_parts}
use Rattle.cap_top_text.proofs.Steps.{ended, left_at_end}
use Rattle.cap_top_text.proofs.Runs.{more_behind, more_parts}
use Rattle.cap_top_text.proofs.text.push_parts.Goals as goal

pub parts-preserved : goal.parts-preserved
parts-preserved c =
    let parts = c.args.parts.now in
    let done = c.args.done.now in
    let i = length c.parts.yielded in
    let turn = zip_turn parts done c.parts.yielded c.into_iter-part-iterator.result c.parts.part-iterator c.next.new.self c.next.result (cc) (cc) c.parts.yielded_by (c.in-Some.part, c.in-Some.one) c.in-Some.is c.next.ensures.steps in
    let next = length_push c.parts.yielded (c.in-Some.part, c.in-Some.one) in
    record {
      text = more_parts c.args.histories.now.all.now c.parts.book c.push_item.new.book c.parts.out.items _ _ parts done i _ c.in-Some.part.now c.in-Some.one.now next turn c.parts.invariant.text c.in_ok-push_item.ensures.text c.in_ok-push_item.ensures.book;
      book = more_behind c.parts.book c.push_item.new.book _ parts done i _ c.in-Some.part.now c.in-Some.one.now next turn c.parts.invariant.book c.in_ok-push_item.ensures.book;
    }

pub returns-clause-text : goal.returns-clause-text
returns-clause-text c =
    let pairs = zip c.args.parts.now c.args.done.now in
    let end = zip_end c.args.parts.now c.args.done.now c.parts.yielded c.into_iter-part-iterator.result c.parts.part-iterator c.next.new.self c.next.result (cc) (cc) c.parts.yielded_by c.in-None.is c.next.ensures.steps in
    let all : length pairs ≤ length c.parts.yielded = omega (arith, end, length-zip c.args.parts.now c.args.done.now) in
    ended (parts_text c.args.histories.now.all.now c.parts.book) refl c.parts.out.items _ pairs (length c.parts.yielded) all c.parts.invariant.text

pub returns-clause-book : goal.returns-clause-book
returns-clause-book c =
    let pairs = zip c.args.parts.now c.args.done.now in
    let end = zip_end c.args.parts.now c.args.done.now c.parts.yielded c.into_iter-part-iterator.result c.parts.part-iterator c.next.new.self c.next.result (cc) (cc) c.parts.yielded_by c.in-None.is c.next.ensures.steps in
    let all : length pairs ≤ length c.parts.yielded = omega (arith, end, length-zip c.args.parts.now c.args.done.now) in
    left_at_end (behind_parts c.parts.book) _ pairs (length c.parts.yielded) all c.parts.invariant.book
