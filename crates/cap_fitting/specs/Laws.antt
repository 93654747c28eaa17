-- The laws of scripts that fit (this project's own script language).
use Rattle.std.specs.Prelude.{◌≡◌, ◌↔◌, None}
use Rattle.std.specs.List.{All}
use Rattle.cap_grammar.specs.declared.tree.ObjTok.{ObjTok}
use Rattle.cap_grammar.specs.declared.tree.MorTok.{MorTok}
use Rattle.cap_grammar.specs.declared.tree.Command.{Command}
use Rattle.cap_grammar.specs.declared.tree.Script.{Script}
use Rattle.cap_faults.specs.Commands.{Scope, command_marks}
use Rattle.cap_faults.specs.Scripts.{IsSound}
use Rattle.cap_checked.specs.declared.tree.Checked.{Checked}
use Rattle.cap_checked.specs.Checked.{checked_of}
use Rattle.cap_sound.specs.Given.{IsGiven}
use Rattle.cap_check.specs.Forms.{IsOfSound}
use Rattle.cap_fitting.specs.Forms.{FormFits}
use Rattle.cap_fitting.specs.Literals.{LiteralsFit}
use Rattle.cap_fitting.specs.Given.{IsWritten, CommandsAreWritten, IsFaultless, OthersAreFree}

-- the checked form of a script without faults fits
abbrev pub FormsFit : Type 0
FormsFit = (form : Checked) → IsOfSound form → FormFits form

-- and its literals of matrices do
abbrev pub LiteralsOfFormsFit : Type 0
LiteralsOfFormsFit = (form : Checked) → IsOfSound form → LiteralsFit form

-- in a script of some text each operation is one of the 44, and each integer that is an argument is short
abbrev pub GivenAreWritten : Type 0
GivenAreWritten = (s : Script) → IsGiven s → CommandsAreWritten s

-- where that is so of a command, no mark of it tells a reason exactly where it is faultless
abbrev pub FreeWhereFaultless : Type 0
FreeWhereFaultless = (s : Scope) (c : Command ObjTok MorTok) → IsWritten c → All (λ m. m ≡ None) (command_marks s c) ↔ IsFaultless s c

-- a script of some text has no fault exactly where its checked form fits and its blocks and literals have none
abbrev pub SoundWhereFits : Type 0
SoundWhereFits = (s : Script) → IsGiven s → IsSound s ↔ (FormFits (checked_of s) × OthersAreFree s)
