-- The marks of a whole script, without their places (this project's own script language).
use Rattle.std.specs.Prelude.{ℕ, ◌-◌, List, [], ◌++◌, length, take, nat_le}
use Rattle.std.specs.List.{filter_map}
use Rattle.cap_names.specs.declared.reasons.Reason.{Reason}
use Rattle.cap_grammar.specs.declared.tree.Script.{Script}
use Rattle.cap_block_faults.specs.Marks.{Mark, each}
use Rattle.cap_block_faults.specs.Names.{Part}
use Rattle.cap_faults.specs.declared.values.Value.{Value}
use Rattle.cap_faults.specs.Commands.{scope, command_marks}
use Rattle.cap_faults.specs.Scripts.{item_marks, values_behind, bound_by_part, bound_by_command, SessionCommand, Session, session_marks, commands_left}

-- the marks of a part of the prelude, by how many stand before it
abbrev pub marks_of_part : List Part → ℕ → Part → List Mark
marks_of_part parts i p = item_marks (nat_le 4096 i) (take i parts) (values_behind bound_by_part [] (take i parts)) p.node

-- the marks of a session's command, behind the prelude and what it bound, where so many commands may still come
abbrev pub marks_of_command : ℕ → List Part → List Value → List SessionCommand → ℕ → SessionCommand → List Mark
marks_of_command left parts outer commands i c =
    command_marks (scope (nat_le left i) parts
    (length (values_behind bound_by_command outer (take i commands)) - length outer) (values_behind bound_by_command outer (take i commands))) c.node

-- the marks of a session: of its first line, and of its commands
abbrev pub marks_of_session : List Part → List Value → List Session → ℕ → Session → List Mark
marks_of_session parts outer sessions i s =
    session_marks (take i sessions) i s.node.name
    ++ each (marks_of_command (commands_left parts (take i sessions)) parts outer s.node.commands) s.node.commands

-- the marks of a script, in the order of the text
abbrev pub script_marks : Script → List Mark
script_marks s =
    each (marks_of_part s.prelude) s.prelude ++ each (marks_of_session s.prelude (values_behind bound_by_part [] s.prelude) s.sessions) s.sessions

-- the reasons of the marks that tell one
abbrev pub told_reasons : List Mark → List Reason
told_reasons marks = filter_map (λ m. m) marks
