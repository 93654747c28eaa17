use Rattle.std.proofs.Common.{◌≡◌, map}
use Rattle.cap_checked.specs.Checked.{placed_command}
use Rattle.cap_checked.proofs.scripts.commands.Given as goal

abbrev pub invariant-tokens : goal.invariant-tokens
invariant-tokens l = l.commands.items ≡ map (placed_command l.parts) l.yielded
