-- Commands as they are written: with what the text says of them, one is without faults exactly where it fits and its literal is without faults (this project's own script language).
use Rattle.std.specs.Prelude.{◌≡◌, List, [], ◌∷◌, ◌++◌, false, None, nat_le, count_by}
use Rattle.std.specs.List.{All}
use Rattle.cap_grammar.specs.declared.tree.ArgTok.{ArgTok}
use Rattle.cap_grammar.specs.declared.tree.ArgTok.TheVariants as argument
use Rattle.cap_grammar.specs.declared.tree.ObjTok.{ObjTok}
use Rattle.cap_grammar.specs.declared.tree.MorTok.{MorTok}
use Rattle.cap_grammar.specs.declared.tree.Command.{Command}
use Rattle.cap_grammar.specs.declared.tree.Command.TheVariants.{Register, Finalise, Plan, Object, Src, Tgt, Let, Call}
use Rattle.cap_grammar.specs.declared.tree.Item.{Item}
use Rattle.cap_grammar.specs.declared.tree.Item.TheVariants as top
use Rattle.cap_grammar.specs.declared.tree.Script.{Script}
use Rattle.cap_ops.specs.Ends.{IsOperation}
use Rattle.cap_block_faults.specs.Marks.{Mark}
use Rattle.cap_block_faults.specs.Names.{Part, over_of}
use Rattle.cap_block_faults.specs.Blocks.{block_marks}
use Rattle.cap_faults.specs.Commands.{object_literal, morphism_literal}
use Rattle.cap_faults.specs.Commands as marks
use Rattle.cap_faults.specs.Scripts.{is_block, SessionCommand, Session}
use Rattle.cap_sound.specs.Forms.{IsShort}
use Rattle.cap_fitting.specs.Commands.{Scope, CommandFits}

-- an integer of at most 16 digits, where the argument is one
abbrev pub IsShortArgument : ArgTok → Type 0
IsShortArgument (argument.Ref r) = Unit {0}
IsShortArgument (argument.Int i) = IsShort i

-- what the text says of a command: its operation is one of the 44, and its integers are short
abbrev pub IsWritten : Command ObjTok MorTok → Type 0
IsWritten (Register cat op weight) = IsOperation op.0
IsWritten (Finalise cat) = Unit {0}
IsWritten (Plan cat) = Unit {0}
IsWritten (Object cat x lit) = Unit {0}
IsWritten (Src x of) = Unit {0}
IsWritten (Tgt x of) = Unit {0}
IsWritten (Let x cat src tgt lit) = Unit {0}
IsWritten (Call x cat op args) = IsOperation op.0 × All IsShortArgument args

abbrev pub IsWrittenItem : Item ObjTok MorTok → Type 0
IsWrittenItem (top.Block b) = Unit {0}
IsWrittenItem (top.Category n over) = Unit {0}
IsWrittenItem (top.Command c) = IsWritten c

-- each command of a script is written so
pub record CommandsAreWritten (s : Script) : Type 0 where
  pub prelude : (before behind : List Part) (p : Part) → s.prelude ≡ before ++ (p ∷ behind) → IsWrittenItem p.node
  pub sessions : (before behind : List Session) (x : Session) → s.sessions ≡ before ++ (x ∷ behind)
      → (earlier later : List SessionCommand) (c : SessionCommand) → x.node.commands ≡ earlier ++ (c ∷ later) → IsWritten c.node

-- the scope in which a command's marks are told
abbrev pub scope_of : marks.Scope → Scope
scope_of s = record { over = over_of s.parts; values = s.values; own = s.own }

-- the marks of a command's literal behind these parts
abbrev pub literal_marks : List Part → Command ObjTok MorTok → List Mark
literal_marks parts (Register cat op weight) = []
literal_marks parts (Finalise cat) = []
literal_marks parts (Plan cat) = []
literal_marks parts (Object cat x lit) = object_literal parts (over_of parts cat) lit
literal_marks parts (Src x of) = []
literal_marks parts (Tgt x of) = []
literal_marks parts (Let x cat src tgt lit) = morphism_literal parts (over_of parts cat) lit
literal_marks parts (Call x cat op args) = []

-- a command that is not one too many, fits, and has a literal without faults
pub record IsFaultless (s : marks.Scope) (c : Command ObjTok MorTok) : Type 0 where
  pub room : s.full ≡ false
  pub fits : CommandFits (scope_of s) c
  pub literal : All (λ m. m ≡ None) (literal_marks s.parts c)

-- the marks of what fitting does not speak of: blocks and literals
abbrev pub other_marks : List Part → Item ObjTok MorTok → List Mark
other_marks before (top.Block b) = block_marks (nat_le 16 (count_by is_block before)) before b
other_marks before (top.Category n over) = []
other_marks before (top.Command c) = literal_marks before c

-- blocks and literals are without faults
pub record OthersAreFree (s : Script) : Type 0 where
  pub prelude : (before behind : List Part) (p : Part) → s.prelude ≡ before ++ (p ∷ behind) → All (λ m. m ≡ None) (other_marks before p.node)
  pub sessions : (before behind : List Session) (x : Session) → s.sessions ≡ before ++ (x ∷ behind)
      → (earlier later : List SessionCommand) (c : SessionCommand) → x.node.commands ≡ earlier ++ (c ∷ later) → All (λ m. m ≡ None) (literal_marks s.prelude c.node)
