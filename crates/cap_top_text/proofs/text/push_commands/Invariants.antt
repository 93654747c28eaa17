use Rattle.std.proofs.Common.{◌≡◌, ◌++◌, drop, length}
use Rattle.std.specs.Prelude.{zip}
use Rattle.cap_top_text.specs.Text.{commands_text}
use Rattle.cap_top_text.proofs.text.push_commands.Given as goal

abbrev pub invariant-commands : goal.invariant-commands
invariant-commands l = l.out.items ++ commands_text l.histories.all.now l.book (drop (length l.yielded) (zip l.commands l.done)) ≡ l.fn.out.items ++ commands_text l.histories.all.now l.fn.book (zip l.commands l.done)
