-- What is wrong in a literal, as its category asks (this project's own script language). In a literal of another kind's form nothing behind its first token is looked at.
use Rattle.std.specs.Prelude.{ℕ, List, [], ◌∷◌, ◌++◌, length, take, Bool, true, false, not, Option, Some, None, nat_le, nat_lt, nat_eq}
use Rattle.std.specs.List.{list_any}
use Rattle.std.specs.Cmp.Lexicographic.{pointwise}
use Rattle.cap_names.specs.declared.reasons.Reason.TheVariants.{Known, Taken, Sort, Limit}
use Rattle.cap_grammar.specs.declared.tree.IntTok.{IntTok}
use Rattle.cap_grammar.specs.declared.tree.EntryTok.{EntryTok}
use Rattle.cap_grammar.specs.declared.tree.EntryTok.TheVariants as cell
use Rattle.cap_grammar.specs.declared.tree.RowsTok.{RowsTok}
use Rattle.cap_grammar.specs.declared.tree.ObjTok.{ObjTok}
use Rattle.cap_grammar.specs.declared.tree.ObjTok.TheVariants.{Dim, Parts, Relation, Dims}
use Rattle.cap_grammar.specs.declared.tree.MorTok.{MorTok}
use Rattle.cap_grammar.specs.declared.tree.MorTok.TheVariants as matrices
use Rattle.cap_grammar.specs.declared.tree.Over.{Over}
use Rattle.cap_grammar.specs.declared.tree.Over.TheVariants.{Vec, Add, Freyd, Rep}
use Rattle.cap_grammar.specs.declared.tree.BlockLine.{BlockLine}
use Rattle.cap_block_faults.specs.Marks.{Mark, free, told, ◌or_else◌, each, separator}
use Rattle.cap_block_faults.specs.Names.{Part, same, is_among, objects_of, lines_of, is_quiver}
use Rattle.cap_block_faults.specs.Blocks.{int_marks, path_marks}

-- an entry: an integer, or coefficients where these are asked for
abbrev pub coeff_item : ℕ → IntTok → List Mark
coeff_item j i = int_marks free i

abbrev pub entry_marks : Bool → EntryTok → List Mark
entry_marks coeffs (cell.Int i) = int_marks (told coeffs Sort) i
entry_marks coeffs (cell.Coeffs is) = told (not coeffs) Sort ∷ each coeff_item is ++ free ∷ []

-- rows, the first token of which has the mark
abbrev pub entry_item : Bool → ℕ → EntryTok → List Mark
entry_item coeffs j e = entry_marks coeffs e

abbrev pub row_item : Bool → ℕ → List EntryTok → List Mark
row_item coeffs i entries = separator i free ++ each (entry_item coeffs) entries

abbrev pub rows_marks : Mark → Bool → RowsTok → List Mark
rows_marks begins coeffs m = begins ∷ each (row_item coeffs) m.rows ++ free ∷ []

-- a list of at most 64 objects
abbrev pub part_item : List (List ℕ) → ℕ → List ℕ → List Mark
part_item objects i name = (told (nat_le 64 i) Limit or_else told (not (is_among objects name)) Known) ∷ []

abbrev pub list_marks : List (List ℕ) → List (List ℕ) → List Mark
list_marks objects names = free ∷ each (part_item objects) names ++ free ∷ []

-- the path has a map already
abbrev pub has_map : List (List (List ℕ) × RowsTok) → List (List ℕ) → Bool
has_map maps path = list_any (λ m. pointwise same m.0 path) maps

-- maps at basis elements of a table, or at paths of a quiver, none twice
abbrev pub map_item : List BlockLine → Bool → List (List (List ℕ) × RowsTok) → ℕ → List (List ℕ) × RowsTok → List Mark
map_item lines table maps i m = path_marks lines (told table Sort) (told (has_map (take i maps) m.0) Taken) m.0 ++ free ∷ rows_marks free false m.1

abbrev pub maps_marks : List BlockLine → Bool → List (List (List ℕ) × RowsTok) → List Mark
maps_marks lines table maps = each (map_item lines table maps) maps

abbrev pub some_maps : List BlockLine → Bool → Option (List (List (List ℕ) × RowsTok)) → List Mark
some_maps lines table None = []
some_maps lines table (Some maps) = maps_marks lines table maps

-- a dimension of at most 2,048 for each of so many objects. Where there are too few, the next token is wrong, which is `maps` or the end of the line
abbrev pub dim_item : ℕ → ℕ → ℕ → List Mark
dim_item objects i n = (told (nat_lt 2048 n) Limit or_else told (nat_le objects i) Sort) ∷ []

abbrev pub dims_marks : ℕ → List ℕ → List Mark
dims_marks objects dims = free ∷ each (dim_item objects) dims ++ told (nat_lt (length dims) objects) Sort ∷ []

-- another kind's form
abbrev pub other_form : ObjTok → List Mark
other_form (Dim n) = (told (nat_lt 2048 n) Limit or_else told true Sort) ∷ []
other_form (Parts names) = told true Sort ∷ []
other_form (Relation src tgt rho) = told true Sort ∷ []
other_form (Dims dims maps) = told true Sort ∷ []

-- an object of matrices, of an additive closure, of a Freyd category, and a functor
abbrev pub dim_marks : ObjTok → List Mark
dim_marks (Dim n) = told (nat_lt 2048 n) Limit ∷ []
dim_marks (Parts names) = other_form (Parts names)
dim_marks (Relation src tgt rho) = other_form (Relation src tgt rho)
dim_marks (Dims dims maps) = other_form (Dims dims maps)

abbrev pub parts_marks : List (List ℕ) → ObjTok → List Mark
parts_marks objects (Dim n) = other_form (Dim n)
parts_marks objects (Parts names) = list_marks objects names
parts_marks objects (Relation src tgt rho) = other_form (Relation src tgt rho)
parts_marks objects (Dims dims maps) = other_form (Dims dims maps)

abbrev pub relation_marks : List (List ℕ) → ObjTok → List Mark
relation_marks objects (Dim n) = other_form (Dim n)
relation_marks objects (Parts names) = other_form (Parts names)
relation_marks objects (Relation src tgt rho) = list_marks objects src ++ free ∷ list_marks objects tgt ++ rows_marks free true rho
relation_marks objects (Dims dims maps) = other_form (Dims dims maps)

abbrev pub functor_marks : ℕ → List BlockLine → Bool → ObjTok → List Mark
functor_marks objects lines table (Dim n) = other_form (Dim n)
functor_marks objects lines table (Parts names) = other_form (Parts names)
functor_marks objects lines table (Relation src tgt rho) = other_form (Relation src tgt rho)
functor_marks objects lines table (Dims dims maps) = dims_marks objects dims ++ some_maps lines table maps

-- an object literal
abbrev pub object_marks : List Part → Over → ObjTok → List Mark
object_marks parts (Vec prime) lit = dim_marks lit
object_marks parts (Add t) lit = parts_marks (objects_of parts t) lit
object_marks parts (Freyd t) lit = relation_marks (objects_of parts t) lit
object_marks parts (Rep t) lit = functor_marks (length (objects_of parts t)) (lines_of parts t) (not (is_quiver parts t)) lit

-- one matrix
abbrev pub matrix_marks : Bool → MorTok → List Mark
matrix_marks coeffs (matrices.Rows m) = rows_marks free coeffs m
matrix_marks coeffs (matrices.Parts ms) = told true Sort ∷ []

-- a matrix for each of so many objects
abbrev pub matrix_item : ℕ → ℕ → RowsTok → List Mark
matrix_item objects i m = rows_marks (told (nat_le objects i) Sort) false m

abbrev pub natural_marks : ℕ → MorTok → List Mark
natural_marks objects (matrices.Rows m) = told true Sort ∷ []
natural_marks objects (matrices.Parts ms) = free ∷ each (matrix_item objects) ms ++ told (nat_lt (length ms) objects) Sort ∷ []

-- a morphism literal
abbrev pub morphism_marks : List Part → Over → MorTok → List Mark
morphism_marks parts (Vec prime) lit = matrix_marks false lit
morphism_marks parts (Add t) lit = matrix_marks true lit
morphism_marks parts (Freyd t) lit = matrix_marks true lit
morphism_marks parts (Rep t) lit = natural_marks (length (objects_of parts t)) lit
