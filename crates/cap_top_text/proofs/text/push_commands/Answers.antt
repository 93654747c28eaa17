use Rattle.std.proofs.Common.{◌≤◌, length, refl, arith}
use Rattle.std.specs.Prelude.{zip}
use Rattle.std.proofs.lemmas.List.{length_push}
use Rattle.std.proofs.lemmas.Slice.Zip.{zip_turn, zip_end, length-zip}
use Rattle.cap_top_text.specs.Text.{commands_text}
use Rattle.cap_top_text.proofs.Steps.{ended}
use Rattle.cap_top_text.proofs.Runs.{more_commands}
use Rattle.cap_top_text.proofs.text.push_commands.Goals as goal

pub commands-preserved : goal.commands-preserved
commands-preserved c =
    let commands = c.args.commands.now in
    let done = c.args.done.now in
    let turn = zip_turn commands done c.commands.yielded c.into_iter-command-iterator.result c.commands.command-iterator c.next.new.self c.next.result (cc) (cc) c.commands.yielded_by (c.in-Some.command, c.in-Some.one) c.in-Some.is c.next.ensures.steps in
    let next = length_push c.commands.yielded (c.in-Some.command, c.in-Some.one) in
    more_commands c.args.histories.now.all.now c.commands.book c.push_command.new.book c.commands.out.items _ _ commands done (length c.commands.yielded) _ c.in-Some.command.now c.in-Some.one.now next turn c.commands.invariant c.in_ok-push_command.ensures.text c.in_ok-push_command.ensures.book

pub returns : goal.returns
returns c =
    let pairs = zip c.args.commands.now c.args.done.now in
    let end = zip_end c.args.commands.now c.args.done.now c.commands.yielded c.into_iter-command-iterator.result c.commands.command-iterator c.next.new.self c.next.result (cc) (cc) c.commands.yielded_by c.in-None.is c.next.ensures.steps in
    let all : length pairs ≤ length c.commands.yielded = omega (arith, end, length-zip c.args.commands.now c.args.done.now) in
    ended (commands_text c.args.histories.now.all.now c.commands.book) refl c.commands.out.items _ pairs (length c.commands.yielded) all c.commands.invariant
