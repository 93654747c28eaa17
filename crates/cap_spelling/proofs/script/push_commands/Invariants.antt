use Rattle.std.proofs.Common.{◌≡◌, ◌++◌, take}
use Rattle.std.specs.List.{flat_map}
use Rattle.cap_spelling.specs.Spelling.{command_symbols}
use Rattle.cap_spelling.proofs.script.push_commands.Given as goal

abbrev pub invariant-commands : goal.invariant-commands
invariant-commands l = l.out.items ≡ l.fn.out.items ++ flat_map (λ x. command_symbols x.node) (take l.command-index l.commands)
