-- The laws of scripts that stand in some text (this project's own script language).
use Rattle.std.specs.Prelude.{◌≡◌, ◌↔◌, ℕ, ◌≤◌, List, Bool, None, length, map}
use Rattle.std.specs.List.{All}
use Rattle.cap_grammar.specs.declared.tree.Script.{Script}
use Rattle.cap_grammar.specs.Grammar.{command, part}
use Rattle.cap_grammar.specs.Scripts.{Mark, placed, IsSession}
use Rattle.cap_block_faults.specs.Names.{Part}
use Rattle.cap_faults.specs.declared.values.Value.{Value}
use Rattle.cap_faults.specs.Commands.{Scope, command_marks}
use Rattle.cap_faults.specs.Scripts.{item_marks, SessionCommand, Session, session_marks, script_faults, IsSound}
use Rattle.cap_checked.specs.Checked.{checked_of}
use Rattle.cap_sound.specs.Given.{IsGiven}
use Rattle.cap_sound.specs.Weights.{AreRanged}
use Rattle.cap_sound.specs.Marked.{script_marks, told_reasons}
use Rattle.cap_sound.specs.Plain.{plainly_checked}
use Rattle.cap_sound.specs.Dimensions.{script_dimensions}
use Rattle.cap_sound.specs.Forms.{ScriptFits}

-- each mark of a part of a prelude has a place, whatever stands before the part
abbrev pub PartsHavePlaces : Type 0
PartsHavePlaces = (p : Part) (text : List Mark) → placed part p text → (full : Bool) (before : List Part) (values : List Value) → length (item_marks full before values p.node) ≤ length p.places

-- each mark of a command has one
abbrev pub CommandsHavePlaces : Type 0
CommandsHavePlaces = (c : SessionCommand) (text : List Mark) → placed command c text → (s : Scope) → length (command_marks s c.node) ≤ length c.places

-- each mark of a session's first line has one
abbrev pub SessionsHavePlaces : Type 0
SessionsHavePlaces = (s : Session) (text : List Mark) → IsSession s text → (earlier : List Session) (i : ℕ) → length (session_marks earlier i s.node.name) ≤ length s.places

-- No mark is lost: the faults have the reasons of all marks that tell one, in the order of the text.
abbrev pub EveryMarkIsTold : Type 0
EveryMarkIsTold = (s : Script) → IsGiven s → map (λ fault. fault.reason) (script_faults s) ≡ told_reasons (script_marks s)

-- a script has no fault exactly where no mark tells a reason
abbrev pub SoundWhereFree : Type 0
SoundWhereFree = (s : Script) → IsGiven s → IsSound s ↔ All (λ m. m ≡ None) (script_marks s)

-- the weights before the sessions are in their range, and so are those of the checked form
abbrev pub WeightsAreRanged : Type 0
WeightsAreRanged = (s : Script) → IsGiven s → IsSound s → AreRanged s.prelude × AreRanged (checked_of s).prelude

-- no number of the checked form is held to its type: it is the form of numbers of any size
abbrev pub NoNumberIsClamped : Type 0
NoNumberIsClamped = (s : Script) → IsGiven s → IsSound s → checked_of s ≡ plainly_checked s

-- each dimension that is written is at most 2,048
abbrev pub DimensionsAreRanged : Type 0
DimensionsAreRanged = (s : Script) → IsGiven s → IsSound s → All (λ n. n ≤ 2048) (script_dimensions s)

-- blocks are within their limits, categories over what is there, and literals of the form that their category asks for, in which each name is there
abbrev pub AllFits : Type 0
AllFits = (s : Script) → IsGiven s → IsSound s → ScriptFits s
