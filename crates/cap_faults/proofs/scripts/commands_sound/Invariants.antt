use Rattle.std.proofs.Common.{◌≡◌, [], take}
use Rattle.cap_block_faults.specs.Marks.{each}
use Rattle.cap_faults.specs.Scripts.{command_faults, values_behind, bound_by_command}
use Rattle.cap_faults.proofs.scripts.commands_sound.Given as goal

abbrev pub invariant-commands : goal.invariant-commands
invariant-commands l = record {
  none : each (command_faults l.left l.parts l.outer l.commands) (take l.i l.commands) ≡ [];
  bound : l.values.items ≡ values_behind bound_by_command l.outer (take l.i l.commands);
}
