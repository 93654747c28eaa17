-- Scripts with numbers in place of names (this project's own script language).
-- A number that passes its type stands as the largest one of the type. A script without faults has none of these: its dimensions go up to 2,048, its blocks have at most 16 objects and 128 basis elements or 64 arrows, and its integers have at most 16 digits.
use Rattle.std.specs.Prelude.{ℕ, ℤ, ◌-◌, ◌^◌, min, pos, neg_ℤ, List, [], ◌∷◌, ◌++◌, map, length, Bool, true, false, Option, Some, None}
use Rattle.std.specs.List.{position_or_len, flat_map}
use Rattle.cap_names.specs.declared.literals.EntryLit.{EntryLit}
use Rattle.cap_names.specs.declared.literals.EntryLit.TheVariants as entries
use Rattle.cap_names.specs.declared.literals.MatLit.{MatLit}
use Rattle.cap_names.specs.declared.literals.ObjLit.TheVariants as objects
use Rattle.cap_names.specs.declared.literals.MorLit.{MorLit}
use Rattle.cap_names.specs.declared.literals.MorLit.TheVariants as morphisms
use Rattle.cap_grammar.specs.declared.tree.IntTok.{IntTok}
use Rattle.cap_grammar.specs.declared.tree.EntryTok.{EntryTok}
use Rattle.cap_grammar.specs.declared.tree.EntryTok.TheVariants as cell
use Rattle.cap_grammar.specs.declared.tree.RowsTok.{RowsTok}
use Rattle.cap_grammar.specs.declared.tree.ObjTok.{ObjTok}
use Rattle.cap_grammar.specs.declared.tree.ObjTok.TheVariants.{Dim, Parts, Relation, Dims}
use Rattle.cap_grammar.specs.declared.tree.MorTok.{MorTok}
use Rattle.cap_grammar.specs.declared.tree.MorTok.TheVariants as matrices
use Rattle.cap_grammar.specs.declared.tree.Over.{Over}
use Rattle.cap_grammar.specs.declared.tree.Over.TheVariants.{Vec, Add, Freyd, Rep}
use Rattle.cap_grammar.specs.declared.tree.BlockLine.{BlockLine}
use Rattle.cap_grammar.specs.declared.tree.BlockLine.TheVariants as line
use Rattle.cap_grammar.specs.declared.tree.Command.{Command}
use Rattle.cap_grammar.specs.declared.tree.Command.TheVariants.{Register, Finalise, Plan, Object, Src, Tgt, Let, Call}
use Rattle.cap_grammar.specs.declared.tree.Item.{Item}
use Rattle.cap_grammar.specs.declared.tree.Item.TheVariants as top
use Rattle.cap_grammar.specs.declared.tree.Placed.{Placed}
use Rattle.cap_grammar.specs.declared.tree.SessionPart.{SessionPart}
use Rattle.cap_grammar.specs.declared.tree.Script.{Script}
use Rattle.cap_block_faults.specs.Names.{Part, same, objects_of, lines_of, is_quiver, over_of}
use Rattle.cap_checked.specs.declared.tree.CheckedObj.{CheckedObj}
use Rattle.cap_checked.specs.declared.tree.CheckedObj.TheVariants as checked
use Rattle.cap_checked.specs.declared.tree.Checked.{Checked}

-- a dimension or a number of a name, of 32 bits
abbrev pub small : ℕ → ℕ
small n = min n (2 ^ 32 - 1)

-- the digits of an integer, of 63 bits
abbrev pub short : ℕ → ℕ
short n = min n (2 ^ 63 - 1)

-- an integer: its digits, with a minus where it has the sign
abbrev pub signed : Bool → ℕ → ℤ
signed true digits = neg_ℤ (pos digits)
signed false digits = pos digits

abbrev pub integer : IntTok → ℤ
integer i = signed i.minus (short i.digits)

-- entries and matrices
abbrev pub entry : EntryTok → EntryLit
entry (cell.Int i) = entries.Int (integer i)
entry (cell.Coeffs is) = entries.Coeffs (map integer is)

abbrev pub matrix : RowsTok → MatLit
matrix m = record { rows = map (map entry) m.rows }

-- the number of a name: how many names stand before the first of its kind. One that isn't there comes behind all
abbrev pub number : List (List ℕ) → List ℕ → ℕ
number names name = small (position_or_len (λ other. same other name) names)

-- the basis elements, or the arrows, among lines
abbrev pub own_name : BlockLine → List (List ℕ)
own_name (line.Basis b src tgt) = b ∷ []
own_name (line.Unit x combo) = []
own_name (line.Product left right combo) = []
own_name (line.Arrow a src tgt) = a ∷ []
own_name (line.Relation sum) = []

abbrev pub basis : List BlockLine → List (List ℕ)
basis lines = flat_map own_name lines

-- a map of a functor on a table stands at a basis element, and on a quiver at a path of arrows
abbrev pub first_number : List (List ℕ) → List (List ℕ) → ℕ
first_number names [] = small (length names)
first_number names (name ∷ others) = number names name

abbrev pub map_at_element : List (List ℕ) → List (List ℕ) × RowsTok → ℕ × MatLit
map_at_element names m = (first_number names m.0, matrix m.1)

abbrev pub map_at_path : List (List ℕ) → List (List ℕ) × RowsTok → List ℕ × MatLit
map_at_path names m = (map (number names) m.0, matrix m.1)

-- no `maps` are no maps
abbrev pub listed : Option (List (List (List ℕ) × RowsTok)) → List (List (List ℕ) × RowsTok)
listed None = []
listed (Some maps) = maps

abbrev pub functor : Bool → List (List ℕ) → List ℕ → List (List (List ℕ) × RowsTok) → CheckedObj
functor true names dims maps = checked.Paths (map small dims) (map (map_at_path names) maps)
functor false names dims maps = checked.Lit (objects.Dims (map small dims) (map (map_at_element names) maps))

-- an object literal over a table or a quiver with these objects, and these basis elements or arrows
abbrev pub object : Bool → List (List ℕ) → List (List ℕ) → ObjTok → CheckedObj
object quiver xs names (Dim n) = checked.Lit (objects.Dim (small n))
object quiver xs names (Parts parts) = checked.Lit (objects.Parts (map (number xs) parts))
object quiver xs names (Relation src tgt rho) = checked.Lit (objects.Relation (map (number xs) src) (map (number xs) tgt) (matrix rho))
object quiver xs names (Dims dims maps) = functor quiver names dims (listed maps)

-- over the block of this name
abbrev pub object_over : List Part → List ℕ → ObjTok → CheckedObj
object_over parts block lit = object (is_quiver parts block) (objects_of parts block) (basis (lines_of parts block)) lit

-- an object literal of a category over this: one of matrices over a field has no block
abbrev pub object_of_kind : List Part → Over → ObjTok → CheckedObj
object_of_kind parts (Vec prime) lit = object false [] [] lit
object_of_kind parts (Add block) lit = object_over parts block lit
object_of_kind parts (Freyd block) lit = object_over parts block lit
object_of_kind parts (Rep block) lit = object_over parts block lit

-- an object literal of a category that may be unknown
abbrev pub object_lit : List Part → Option Over → ObjTok → CheckedObj
object_lit parts None lit = object false [] [] lit
object_lit parts (Some over) lit = object_of_kind parts over lit

-- a morphism literal: it has no names
abbrev pub morphism_lit : MorTok → MorLit
morphism_lit (matrices.Rows m) = morphisms.Rows (matrix m)
morphism_lit (matrices.Parts ms) = morphisms.Parts (map matrix ms)

-- a command behind these parts: its literals have numbers, and the rest stands
abbrev pub command : List Part → Command ObjTok MorTok → Command CheckedObj MorLit
command parts (Register cat op weight) = Register cat op weight
command parts (Finalise cat) = Finalise cat
command parts (Plan cat) = Plan cat
command parts (Object cat x lit) = Object cat x (object_lit parts (over_of parts cat) lit)
command parts (Src x of) = Src x of
command parts (Tgt x of) = Tgt x of
command parts (Let x cat src tgt lit) = Let x cat src tgt (morphism_lit lit)
command parts (Call x cat op args) = Call x cat op args

abbrev pub placed_command : List Part → Placed (Command ObjTok MorTok) → Placed (Command CheckedObj MorLit)
placed_command parts c = record { node = command parts c.node; places = c.places }

-- a part behind the parts before it
abbrev pub node : List Part → Item ObjTok MorTok → Item CheckedObj MorLit
node before (top.Block b) = top.Block b
node before (top.Category n over) = top.Category n over
node before (top.Command c) = top.Command (command before c)

abbrev pub part : List Part → Part → Placed (Item CheckedObj MorLit)
part before p = record { node = node before p.node; places = p.places }

abbrev pub parts_behind : List Part → List Part → List (Placed (Item CheckedObj MorLit))
parts_behind before [] = []
parts_behind before (p ∷ ps) = part before p ∷ parts_behind (before ++ p ∷ []) ps

abbrev pub prelude : List Part → List (Placed (Item CheckedObj MorLit))
prelude parts = parts_behind [] parts

-- a session behind the whole prelude
abbrev pub session : List Part → Placed (SessionPart ObjTok MorTok) → Placed (SessionPart CheckedObj MorLit)
session parts s = record { node = record { name = s.node.name; commands = map (placed_command parts) s.node.commands }; places = s.places }

-- a script
abbrev pub checked_of : Script → Checked
checked_of s = record { prelude = prelude s.prelude; sessions = map (session s.prelude) s.sessions }
