-- Reading scripts from marks: each node keeps the places of its symbols.
use Rattle.std.specs.Prelude.{◌≡◌, ℕ, List, ◌++◌, Bool, Result, Ok, Err}
use Rattle.cap_reading.specs.Steps.{Read, mapped, skip, before, both, many, gives}
use Rattle.cap_reading.specs.declared.fault.ReadError.{ReadError}
use Rattle.cap_reading.specs.declared.fault.ReadError.TheVariants as errors
use Rattle.cap_grammar.specs.declared.symbol.Fixed.TheVariants as word
use Rattle.cap_grammar.specs.declared.symbol.Symbol.{Symbol}
use Rattle.cap_grammar.specs.declared.tree.Placed.{Placed}
use Rattle.cap_grammar.specs.declared.tree.ObjTok.{ObjTok}
use Rattle.cap_grammar.specs.declared.tree.MorTok.{MorTok}
use Rattle.cap_grammar.specs.declared.tree.Item.{Item}
use Rattle.cap_grammar.specs.declared.tree.Command.{Command}
use Rattle.cap_grammar.specs.declared.tree.SessionPart.{SessionPart}
use Rattle.cap_grammar.specs.declared.tree.Script.{Script}
use Rattle.cap_grammar.specs.Scripts.{Mark, symbols, IsFault}
use Rattle.cap_lines.specs.Marks.{placed_at}
use Rattle.cap_literals.specs.Reading.{is, name_at}
use Rattle.cap_parser.specs.declared.text.ScriptFault.{ScriptFault}
use Rattle.cap_parser.specs.declared.text.ScriptFault.TheVariants as fault
use Rattle.cap_parser.specs.Commands.{starts_command, command_at}
use Rattle.cap_parser.specs.Blocks.{starts_part, part_at}

-- "session" NAME LF
unfoldable pub session_head_at : List Symbol → Read Symbol (List ℕ)
session_head_at ts = skip (is word.Session) (before name_at (is word.Newline)) ts

-- "end" LF
unfoldable pub session_end_at : List Symbol → Read Symbol (Unit {0})
session_end_at ts = skip (is word.End) (skip (is word.Newline) (gives tt)) ts

abbrev pub mark_starts : (Symbol → Bool) → Mark → Bool
mark_starts starts m = starts m.symbol

unfoldable pub item_at : List Mark → Read Mark (Placed (Item ObjTok MorTok))
item_at ms = placed_at part_at ms

unfoldable pub placed_command_at : List Mark → Read Mark (Placed (Command ObjTok MorTok))
placed_command_at ms = placed_at command_at ms

unfoldable pub commands_at : List Mark → Read Mark (List (Placed (Command ObjTok MorTok)))
commands_at ms = many (mark_starts starts_command) placed_command_at ms

abbrev pub new_session : Placed (List ℕ) × (List (Placed (Command ObjTok MorTok)) × Placed (Unit {0})) → Placed (SessionPart ObjTok MorTok)
new_session x = record { node = record { name = x.0.node; commands = x.1.0 }; places = x.0.places ++ x.1.1.places }

unfoldable pub session_at : List Mark → Read Mark (Placed (SessionPart ObjTok MorTok))
session_at ms = mapped new_session (both (placed_at session_head_at) (both commands_at (placed_at session_end_at))) ms

unfoldable pub items_at : List Mark → Read Mark (List (Placed (Item ObjTok MorTok)))
items_at ms = many (mark_starts starts_part) item_at ms

unfoldable pub sessions_at : List Mark → Read Mark (List (Placed (SessionPart ObjTok MorTok)))
sessions_at ms = many (mark_starts (is word.Session)) session_at ms

abbrev pub new_script : List (Placed (Item ObjTok MorTok)) × List (Placed (SessionPart ObjTok MorTok)) → Script
new_script x = record { prelude = x.0; sessions = x.1 }

unfoldable pub script_at : List Mark → Read Mark Script
script_at ms = mapped new_script (both items_at sessions_at) ms

-- The step fails at marks whose symbols the error names, unless memory ran out.
abbrev pub MarksFail : {Y : Type 0} → ReadError Symbol → Result Y (List Mark) → Type 0
MarksFail errors.Memory read = Unit {0}
MarksFail (errors.Syntax rest) read = (ms : List Mark) × (read ≡ Err ms) × (symbols ms ≡ rest.now)

-- What a function returned, seen by view, is what the step of marks answers, unless memory ran out.
abbrev pub GivesMarks : {X Y : Type 0} → (X → Y) → Result X (ReadError Symbol) → Result Y (List Mark) → Type 0
GivesMarks view (Ok x) read = read ≡ Ok (view x)
GivesMarks view (Err e) read = MarksFail e read

-- what a fault says of the symbols of a text
abbrev pub FaultIs : List Symbol → ScriptFault → Type 0
FaultIs text fault.NoMemory = Unit {0}
FaultIs text (fault.Syntax before) = IsFault text before
