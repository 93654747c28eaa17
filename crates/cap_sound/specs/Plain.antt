-- Checked scripts of numbers of any size: the same as checked ones, but that no number is held to a type (this project's own script language).
use Rattle.std.specs.Prelude.{ℕ, ℤ, List, [], ◌∷◌, ◌++◌, map, length, Bool, true, false, Option, Some, None}
use Rattle.std.specs.List.{position_or_len}
use Rattle.cap_names.specs.declared.literals.EntryLit.{EntryLit}
use Rattle.cap_names.specs.declared.literals.EntryLit.TheVariants as entries
use Rattle.cap_names.specs.declared.literals.MatLit.{MatLit}
use Rattle.cap_names.specs.declared.literals.ObjLit.TheVariants as objects
use Rattle.cap_names.specs.declared.literals.MorLit.{MorLit}
use Rattle.cap_names.specs.declared.literals.MorLit.TheVariants as morphisms
use Rattle.cap_grammar.specs.declared.tree.IntTok.{IntTok}
use Rattle.cap_grammar.specs.declared.tree.EntryTok.{EntryTok}
use Rattle.cap_grammar.specs.declared.tree.EntryTok.TheVariants as cell
use Rattle.cap_grammar.specs.declared.tree.RowsTok.{RowsTok}
use Rattle.cap_grammar.specs.declared.tree.ObjTok.{ObjTok}
use Rattle.cap_grammar.specs.declared.tree.ObjTok.TheVariants.{Dim, Parts, Relation, Dims}
use Rattle.cap_grammar.specs.declared.tree.MorTok.{MorTok}
use Rattle.cap_grammar.specs.declared.tree.MorTok.TheVariants as matrices
use Rattle.cap_grammar.specs.declared.tree.Over.{Over}
use Rattle.cap_grammar.specs.declared.tree.Over.TheVariants.{Vec, Add, Freyd, Rep}
use Rattle.cap_grammar.specs.declared.tree.Command.{Command}
use Rattle.cap_grammar.specs.declared.tree.Command.TheVariants.{Register, Finalise, Plan, Object, Src, Tgt, Let, Call}
use Rattle.cap_grammar.specs.declared.tree.Item.{Item}
use Rattle.cap_grammar.specs.declared.tree.Item.TheVariants as top
use Rattle.cap_grammar.specs.declared.tree.Placed.{Placed}
use Rattle.cap_grammar.specs.declared.tree.SessionPart.{SessionPart}
use Rattle.cap_grammar.specs.declared.tree.Script.{Script}
use Rattle.cap_block_faults.specs.Names.{Part, same, objects_of, lines_of, is_quiver, over_of}
use Rattle.cap_checked.specs.declared.tree.CheckedObj.{CheckedObj}
use Rattle.cap_checked.specs.declared.tree.CheckedObj.TheVariants as checked
use Rattle.cap_checked.specs.declared.tree.Checked.{Checked}
use Rattle.cap_checked.specs.Checked.{signed, basis, listed}

-- an integer: its digits with its sign
abbrev pub integer : IntTok → ℤ
integer i = signed i.minus i.digits

-- entries and matrices
abbrev pub entry : EntryTok → EntryLit
entry (cell.Int i) = entries.Int (integer i)
entry (cell.Coeffs is) = entries.Coeffs (map integer is)

abbrev pub matrix : RowsTok → MatLit
matrix m = record { rows = map (map entry) m.rows }

-- the number of a name: how many names stand before the first of its kind
abbrev pub number : List (List ℕ) → List ℕ → ℕ
number names name = position_or_len (λ other. same other name) names

-- a map of a functor stands at a basis element of a table, and at a path of a quiver's arrows
abbrev pub first_number : List (List ℕ) → List (List ℕ) → ℕ
first_number names [] = length names
first_number names (name ∷ others) = number names name

abbrev pub map_at_element : List (List ℕ) → List (List ℕ) × RowsTok → ℕ × MatLit
map_at_element names m = (first_number names m.0, matrix m.1)

abbrev pub map_at_path : List (List ℕ) → List (List ℕ) × RowsTok → List ℕ × MatLit
map_at_path names m = (map (number names) m.0, matrix m.1)

abbrev pub functor : Bool → List (List ℕ) → List ℕ → List (List (List ℕ) × RowsTok) → CheckedObj
functor true names dims maps = checked.Paths dims (map (map_at_path names) maps)
functor false names dims maps = checked.Lit (objects.Dims dims (map (map_at_element names) maps))

-- an object literal over a table or a quiver with these objects, and these basis elements or arrows
abbrev pub object : Bool → List (List ℕ) → List (List ℕ) → ObjTok → CheckedObj
object quiver xs names (Dim n) = checked.Lit (objects.Dim n)
object quiver xs names (Parts parts) = checked.Lit (objects.Parts (map (number xs) parts))
object quiver xs names (Relation src tgt rho) = checked.Lit (objects.Relation (map (number xs) src) (map (number xs) tgt) (matrix rho))
object quiver xs names (Dims dims maps) = functor quiver names dims (listed maps)

-- over the block of this name, of a category over this, and of one that may be unknown
abbrev pub object_over : List Part → List ℕ → ObjTok → CheckedObj
object_over parts block lit = object (is_quiver parts block) (objects_of parts block) (basis (lines_of parts block)) lit

abbrev pub object_of_kind : List Part → Over → ObjTok → CheckedObj
object_of_kind parts (Vec prime) lit = object false [] [] lit
object_of_kind parts (Add block) lit = object_over parts block lit
object_of_kind parts (Freyd block) lit = object_over parts block lit
object_of_kind parts (Rep block) lit = object_over parts block lit

abbrev pub object_lit : List Part → Option Over → ObjTok → CheckedObj
object_lit parts None lit = object false [] [] lit
object_lit parts (Some over) lit = object_of_kind parts over lit

-- a morphism literal
abbrev pub morphism_lit : MorTok → MorLit
morphism_lit (matrices.Rows m) = morphisms.Rows (matrix m)
morphism_lit (matrices.Parts ms) = morphisms.Parts (map matrix ms)

-- a command behind these parts
abbrev pub command : List Part → Command ObjTok MorTok → Command CheckedObj MorLit
command parts (Register cat op weight) = Register cat op weight
command parts (Finalise cat) = Finalise cat
command parts (Plan cat) = Plan cat
command parts (Object cat x lit) = Object cat x (object_lit parts (over_of parts cat) lit)
command parts (Src x of) = Src x of
command parts (Tgt x of) = Tgt x of
command parts (Let x cat src tgt lit) = Let x cat src tgt (morphism_lit lit)
command parts (Call x cat op args) = Call x cat op args

abbrev pub placed_command : List Part → Placed (Command ObjTok MorTok) → Placed (Command CheckedObj MorLit)
placed_command parts c = record { node = command parts c.node; places = c.places }

-- a part behind the parts before it
abbrev pub node : List Part → Item ObjTok MorTok → Item CheckedObj MorLit
node before (top.Block b) = top.Block b
node before (top.Category n over) = top.Category n over
node before (top.Command c) = top.Command (command before c)

abbrev pub part : List Part → Part → Placed (Item CheckedObj MorLit)
part before p = record { node = node before p.node; places = p.places }

abbrev pub parts_behind : List Part → List Part → List (Placed (Item CheckedObj MorLit))
parts_behind before [] = []
parts_behind before (p ∷ ps) = part before p ∷ parts_behind (before ++ p ∷ []) ps

-- a session behind the whole prelude
abbrev pub session : List Part → Placed (SessionPart ObjTok MorTok) → Placed (SessionPart CheckedObj MorLit)
session parts s = record { node = record { name = s.node.name; commands = map (placed_command parts) s.node.commands }; places = s.places }

-- a script
abbrev pub plainly_checked : Script → Checked
plainly_checked s = record { prelude = parts_behind [] s.prelude; sessions = map (session s.prelude) s.sessions }
