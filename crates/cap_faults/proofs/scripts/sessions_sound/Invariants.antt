use Rattle.std.proofs.Common.{◌≡◌, [], take}
use Rattle.cap_block_faults.specs.Marks.{each}
use Rattle.cap_faults.specs.Scripts.{session_faults, commands_left}
use Rattle.cap_faults.proofs.scripts.sessions_sound.Given as goal

abbrev pub invariant-sessions : goal.invariant-sessions
invariant-sessions l = record {
  none : each (session_faults l.parts l.outer l.sessions) (take l.i l.sessions) ≡ [];
  rest : l.left ≡ commands_left l.parts (take l.i l.sessions);
}
