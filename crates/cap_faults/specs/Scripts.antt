-- The faults of a script, in the order of the text (this project's own script language).
use Rattle.std.specs.Prelude.{◌≡◌, ℕ, ◌-◌, List, [], ◌∷◌, ◌++◌, length, take, sum_by, count_by, Bool, true, false, ◌||◌, not, Some, nat_le}
use Rattle.std.specs.List.{list_any}
use Rattle.cap_names.specs.declared.reasons.BadScript.{BadScript}
use Rattle.cap_names.specs.declared.reasons.Reason.TheVariants.{Known, Taken, Prime, Limit}
use Rattle.cap_field.specs.Residue.{is_tabled}
use Rattle.cap_grammar.specs.declared.tree.Placed.{Placed}
use Rattle.cap_grammar.specs.declared.tree.ObjTok.{ObjTok}
use Rattle.cap_grammar.specs.declared.tree.MorTok.{MorTok}
use Rattle.cap_grammar.specs.declared.tree.Over.{Over}
use Rattle.cap_grammar.specs.declared.tree.Over.TheVariants.{Vec, Add, Freyd, Rep}
use Rattle.cap_grammar.specs.declared.tree.Item.{Item}
use Rattle.cap_grammar.specs.declared.tree.Item.TheVariants as top
use Rattle.cap_grammar.specs.declared.tree.Command.{Command}
use Rattle.cap_grammar.specs.declared.tree.SessionPart.{SessionPart}
use Rattle.cap_grammar.specs.declared.tree.Script.{Script}
use Rattle.cap_block_faults.specs.Marks.{Mark, free, told, faults, first, each}
use Rattle.cap_block_faults.specs.Names.{Part, same, has_block, has_category}
use Rattle.cap_block_faults.specs.Blocks.{block_marks}
use Rattle.cap_faults.specs.declared.values.Value.{Value}
use Rattle.cap_faults.specs.declared.fault.CheckFault.{CheckFault}
use Rattle.cap_faults.specs.declared.fault.CheckFault.TheVariants.{Bad, NoMemory}
use Rattle.cap_faults.specs.Commands.{scope, command_marks, bound_by}

-- what a category is over: a prime of the table, or a block that is bound
abbrev pub over_mark : List Part → Over → Mark
over_mark parts (Vec prime) = told (not (is_tabled prime)) Prime
over_mark parts (Add table) = told (not (has_block parts table)) Known
over_mark parts (Freyd table) = told (not (has_block parts table)) Known
over_mark parts (Rep table) = told (not (has_block parts table)) Known

-- a category: its word, its name, the word of its kind, and what it is over
abbrev pub category_marks : Bool → List Part → List ℕ → Over → List Mark
category_marks full parts name over = told full Limit ∷ told (has_category parts name) Taken ∷ free ∷ over_mark parts over ∷ []

-- blocks and categories, of which there may be 16
abbrev pub is_block_item : Item ObjTok MorTok → Bool
is_block_item (top.Block b) = true
is_block_item (top.Category n over) = false
is_block_item (top.Command c) = false

abbrev pub is_block : Part → Bool
is_block p = is_block_item p.node

abbrev pub is_category_item : Item ObjTok MorTok → Bool
is_category_item (top.Block b) = false
is_category_item (top.Category n over) = true
is_category_item (top.Command c) = false

abbrev pub is_category : Part → Bool
is_category p = is_category_item p.node

-- a part of the prelude behind these parts, which have bound these values
abbrev pub item_marks : Bool → List Part → List Value → Item ObjTok MorTok → List Mark
item_marks full parts values (top.Block b) = block_marks (full || nat_le 16 (count_by is_block parts)) parts b
item_marks full parts values (top.Category n over) = category_marks (full || nat_le 16 (count_by is_category parts)) parts n over
item_marks full parts values (top.Command c) = command_marks (scope full parts (length values) values) c

-- the values behind parts, or behind commands
abbrev pub bound_in : List Value → Item ObjTok MorTok → List Value
bound_in values (top.Block b) = []
bound_in values (top.Category n over) = []
bound_in values (top.Command c) = bound_by values c

abbrev pub values_behind : {A : Type 0} → (List Value → A → List Value) → List Value → List A → List Value
values_behind bound values [] = values
values_behind bound values (x ∷ xs) = values_behind bound (values ++ bound values x) xs

abbrev pub bound_by_part : List Value → Part → List Value
bound_by_part values p = bound_in values p.node

abbrev pub SessionCommand : Type 0
SessionCommand = Placed (Command ObjTok MorTok)

abbrev pub bound_by_command : List Value → SessionCommand → List Value
bound_by_command values c = bound_by values c.node

-- the faults of the prelude: 4,096 commands at most, of which each part is one
abbrev pub part_faults : List Part → ℕ → Part → List BadScript
part_faults parts i p =
    faults p.places (item_marks (nat_le 4096 i) (take i parts) (values_behind bound_by_part [] (take i parts)) p.node)

abbrev pub prelude_faults : List Part → List BadScript
prelude_faults parts = each (part_faults parts) parts

-- the faults of a session's commands, behind the prelude's parts and values, where so many commands may still come
abbrev pub command_faults : ℕ → List Part → List Value → List SessionCommand → ℕ → SessionCommand → List BadScript
command_faults left parts outer commands i c =
    faults c.places (command_marks (scope (nat_le left i) parts
    (length (values_behind bound_by_command outer (take i commands)) - length outer) (values_behind bound_by_command outer (take i commands))) c.node)

abbrev pub commands_faults : ℕ → List Part → List Value → List SessionCommand → List BadScript
commands_faults left parts outer commands = each (command_faults left parts outer commands) commands

-- the faults of the sessions: 16 at most, none of the name of an earlier one
abbrev pub Session : Type 0
Session = Placed (SessionPart ObjTok MorTok)

abbrev pub is_session : List ℕ → Session → Bool
is_session name s = same s.node.name name

abbrev pub session_marks : List Session → ℕ → List ℕ → List Mark
session_marks earlier i name = told (nat_le 16 i) Limit ∷ told (list_any (is_session name) earlier) Taken ∷ []

-- how many commands may still come behind the prelude and these sessions
abbrev pub commands_left : List Part → List Session → ℕ
commands_left parts earlier = 4096 - length parts - sum_by (λ s. length s.node.commands) earlier

abbrev pub one_session : ℕ → List Part → List Value → List Session → ℕ → Session → List BadScript
one_session left parts outer earlier i s =
    faults s.places (session_marks earlier i s.node.name) ++ commands_faults left parts outer s.node.commands

abbrev pub session_faults : List Part → List Value → List Session → ℕ → Session → List BadScript
session_faults parts outer sessions i s = one_session (commands_left parts (take i sessions)) parts outer (take i sessions) i s

abbrev pub sessions_faults : List Part → List Value → List Session → List BadScript
sessions_faults parts outer sessions = each (session_faults parts outer sessions) sessions

-- the faults of a script, and a sound script, which has none
abbrev pub script_faults : Script → List BadScript
script_faults s = prelude_faults s.prelude ++ sessions_faults s.prelude (values_behind bound_by_part [] s.prelude) s.sessions

abbrev pub IsSound : Script → Type 0
IsSound s = script_faults s ≡ []

-- the first of the faults is told, unless memory runs out
abbrev pub Tells : List BadScript → CheckFault → Type 0
Tells found (Bad fault) = first found ≡ Some fault
Tells found NoMemory = Unit {0}
