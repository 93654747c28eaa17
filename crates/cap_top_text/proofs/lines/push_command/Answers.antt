use Rattle.std.proofs.Common.{◌≡◌, Some, ◌++◌, map, ap, sym, ◌∙◌}
use Rattle.cap_top_text.specs.Lines.{home_of, home_name, answer_line}
use Rattle.cap_top_text.proofs.Commands.{command_written}
use Rattle.cap_top_text.proofs.lines.push_command.Goals as goal

pub returns-clause-text : goal.returns-clause-text
returns-clause-text c =
    let B = c.args.book.now in
    let C = c.home_of-home.result in
    let known : home_name B.bound c.args.command.now ≡ Some c.in-Some.name = ap (λ b. home_name b c.args.command.now) (sym c.as_slice.ensures) ∙ sym c.home_name.ensures ∙ c.in-Some.is in
    let home : C ≡ home_of B.made c.in-Some.name = c.home_of-home.ensures ∙ ap (λ m. home_of m c.in-Some.name) c.as_slice-2.ensures in
    command_written B c.args.command.now c.args.answer.now c.in-Some.name known C home c.mention_answer.new.seen c.in_ok-mention_answer.ensures.seen
    c.args.histories.now.all.now (map (λ x. x.now) c.objects_of-objects.result.now) c.entries_of-entries.result.now c.subject-subject.result c.args.out.now.items c.mention_answer.new.out.items c.push_answer.new.out.items
    c.objects_of-objects.ensures c.entries_of-entries.ensures c.subject-subject.ensures c.in_ok-mention_answer.ensures.text
    (c.in_ok-push_answer.ensures ∙ ap (λ s. c.mention_answer.new.out.items ++ answer_line C c.entries_of-entries.result.now s c.subject-subject.result c.args.answer.now) c.as_slice-3.ensures)
