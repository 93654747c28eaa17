-- Names and what they are bound to (this project's own script language).
use Rattle.std.specs.Prelude.{ℕ, List, [], ◌∷◌, Bool, true, false, ◌&&◌, Option, Some, None, find, nat_eq, is_some}
use Rattle.std.specs.List.{list_any}
use Rattle.std.specs.Cmp.Lexicographic.{pointwise}
use Rattle.cap_grammar.specs.declared.tree.Placed.{Placed}
use Rattle.cap_grammar.specs.declared.tree.ObjTok.{ObjTok}
use Rattle.cap_grammar.specs.declared.tree.MorTok.{MorTok}
use Rattle.cap_grammar.specs.declared.tree.Over.{Over}
use Rattle.cap_grammar.specs.declared.tree.Block.{Block}
use Rattle.cap_grammar.specs.declared.tree.BlockLine.{BlockLine}
use Rattle.cap_grammar.specs.declared.tree.BlockLine.TheVariants as line
use Rattle.cap_grammar.specs.declared.tree.Item.{Item}
use Rattle.cap_grammar.specs.declared.tree.Item.TheVariants as top

-- the same name: byte by byte
abbrev pub same : List ℕ → List ℕ → Bool
same = pointwise nat_eq

abbrev pub is_among : List (List ℕ) → List ℕ → Bool
is_among names name = list_any (λ other. same other name) names

-- what stands before the sessions, with places
abbrev pub Part : Type 0
Part = Placed (Item ObjTok MorTok)

-- a block of this name
abbrev pub is_block : List ℕ → Item ObjTok MorTok → Bool
is_block name (top.Block b) = same b.name name
is_block name (top.Category n over) = false
is_block name (top.Command c) = false

abbrev pub is_block_named : List ℕ → Part → Bool
is_block_named name p = is_block name p.node

-- a category of this name
abbrev pub is_category : List ℕ → Item ObjTok MorTok → Bool
is_category name (top.Block b) = false
is_category name (top.Category n over) = same n name
is_category name (top.Command c) = false

abbrev pub is_category_named : List ℕ → Part → Bool
is_category_named name p = is_category name p.node

-- whether a block, or a category, has this name
abbrev pub has_block : List Part → List ℕ → Bool
has_block parts name = list_any (is_block_named name) parts

abbrev pub has_category : List Part → List ℕ → Bool
has_category parts name = list_any (is_category_named name) parts

-- the objects of the block, its lines, and whether it is a quiver
abbrev pub objects_in : Item ObjTok MorTok → List (List ℕ)
objects_in (top.Block b) = b.objects
objects_in (top.Category n over) = []
objects_in (top.Command c) = []

abbrev pub lines_in : Item ObjTok MorTok → List BlockLine
lines_in (top.Block b) = b.lines
lines_in (top.Category n over) = []
lines_in (top.Command c) = []

abbrev pub is_quiver_in : Item ObjTok MorTok → Bool
is_quiver_in (top.Block b) = is_some b.bound
is_quiver_in (top.Category n over) = false
is_quiver_in (top.Command c) = false

abbrev pub found : {A : Type 0} → (Item ObjTok MorTok → A) → A → Option Part → A
found get none None = none
found get none (Some p) = get p.node

-- those of the block of this name
abbrev pub objects_of : List Part → List ℕ → List (List ℕ)
objects_of parts name = found objects_in [] (find (is_block_named name) parts)

abbrev pub lines_of : List Part → List ℕ → List BlockLine
lines_of parts name = found lines_in [] (find (is_block_named name) parts)

abbrev pub is_quiver : List Part → List ℕ → Bool
is_quiver parts name = found is_quiver_in false (find (is_block_named name) parts)

-- what the category of this name is over
abbrev pub over_in : Item ObjTok MorTok → Option Over
over_in (top.Block b) = None
over_in (top.Category n over) = Some over
over_in (top.Command c) = None

abbrev pub over_of : List Part → List ℕ → Option Over
over_of parts name = found over_in None (find (is_category_named name) parts)

-- a basis element, or an arrow, of this name
abbrev pub is_basis_line : List ℕ → BlockLine → Bool
is_basis_line name (line.Basis b src tgt) = same b name
is_basis_line name (line.Unit x combo) = false
is_basis_line name (line.Product left right combo) = false
is_basis_line name (line.Arrow a src tgt) = same a name
is_basis_line name (line.Relation sum) = false

abbrev pub has_basis : List BlockLine → List ℕ → Bool
has_basis lines name = list_any (is_basis_line name) lines
