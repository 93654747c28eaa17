-- What is wrong in a block (this project's own script language). A name in a line is bound in an earlier line.
use Rattle.std.specs.Prelude.{ℕ, zero, suc, List, [], ◌∷◌, ◌++◌, take, Bool, true, false, ◌&&◌, not, Option, Some, None, nat_le, nat_lt, count_by, is_some}
use Rattle.std.specs.List.{list_any, list_all}
use Rattle.cap_names.specs.declared.reasons.Reason.TheVariants.{Known, Taken, Sort, Prime, Limit}
use Rattle.cap_field.specs.Residue.{is_tabled}
use Rattle.cap_grammar.specs.declared.tree.IntTok.{IntTok}
use Rattle.cap_grammar.specs.declared.tree.TermTok.{TermTok}
use Rattle.cap_grammar.specs.declared.tree.Block.{Block}
use Rattle.cap_grammar.specs.declared.tree.BlockLine.{BlockLine}
use Rattle.cap_grammar.specs.declared.tree.BlockLine.TheVariants as line
use Rattle.cap_block_faults.specs.Marks.{Mark, free, told, ◌or_else◌, each, separator, at_first}
use Rattle.cap_block_faults.specs.Names.{Part, same, is_among, has_block, has_basis}

-- an integer: its first token, and its digits behind a sign
abbrev pub signed : Bool → Mark → List Mark
signed true first = first ∷ free ∷ []
signed false first = first ∷ []

abbrev pub int_marks : Mark → IntTok → List Mark
int_marks first i = signed i.minus first

-- a path of basis elements or arrows: each name is to be known, and something more may be wrong at the stars or with the whole path, at its first name
abbrev pub path_item : List BlockLine → Mark → Mark → ℕ → List ℕ → List Mark
path_item lines star whole i name = separator i star ++ (told (not (has_basis lines name)) Known or_else at_first i whole) ∷ []

abbrev pub path_marks : List BlockLine → Mark → Mark → List (List ℕ) → List Mark
path_marks lines star whole path = each (path_item lines star whole) path

-- terms with pluses between them, the first tokens of which have the marks
abbrev pub term_item : List BlockLine → (ℕ → Mark) → ℕ → TermTok → List Mark
term_item lines marks i t = separator i free ++ int_marks (marks i) t.coeff ++ path_marks lines free free t.path

abbrev pub terms_marks : List BlockLine → (ℕ → Mark) → List TermTok → List Mark
terms_marks lines marks terms = each (term_item lines marks) terms

abbrev pub no_limit : ℕ → Mark
no_limit i = free

abbrev pub most_16 : ℕ → Mark
most_16 i = told (nat_le 16 i) Limit

-- a combination of any number of terms, where none is the token `0`
abbrev pub combo_marks : List BlockLine → List TermTok → List Mark
combo_marks lines [] = free ∷ []
combo_marks lines (t ∷ ts) = terms_marks lines no_limit (t ∷ ts)

-- a sum of at most 16 terms
abbrev pub sum_marks : List BlockLine → List TermTok → List Mark
sum_marks lines terms = terms_marks lines most_16 terms

-- lines of a kind
abbrev pub is_basis : BlockLine → Bool
is_basis (line.Basis b src tgt) = true
is_basis (line.Unit x combo) = false
is_basis (line.Product left right combo) = false
is_basis (line.Arrow a src tgt) = false
is_basis (line.Relation sum) = false

abbrev pub is_arrow : BlockLine → Bool
is_arrow (line.Basis b src tgt) = false
is_arrow (line.Unit x combo) = false
is_arrow (line.Product left right combo) = false
is_arrow (line.Arrow a src tgt) = true
is_arrow (line.Relation sum) = false

abbrev pub is_relation : BlockLine → Bool
is_relation (line.Basis b src tgt) = false
is_relation (line.Unit x combo) = false
is_relation (line.Product left right combo) = false
is_relation (line.Arrow a src tgt) = false
is_relation (line.Relation sum) = true

-- the unit of an object, and the product of two basis elements
abbrev pub is_unit_of : List ℕ → BlockLine → Bool
is_unit_of object (line.Basis b src tgt) = false
is_unit_of object (line.Unit x combo) = same x object
is_unit_of object (line.Product left right combo) = false
is_unit_of object (line.Arrow a src tgt) = false
is_unit_of object (line.Relation sum) = false

abbrev pub is_product_of : List ℕ → List ℕ → BlockLine → Bool
is_product_of left right (line.Basis b src tgt) = false
is_product_of left right (line.Unit x combo) = false
is_product_of left right (line.Product l r combo) = same l left && same r right
is_product_of left right (line.Arrow a src tgt) = false
is_product_of left right (line.Relation sum) = false

-- a name that is to be an object
abbrev pub object_mark : List (List ℕ) → List ℕ → Mark
object_mark objects name = told (not (is_among objects name)) Known

-- the word, the name and the ends of a basis element or an arrow, of which there may be so many
abbrev pub arrow_marks : Bool → List (List ℕ) → List BlockLine → List ℕ → List ℕ → List ℕ → List Mark
arrow_marks full objects before name src tgt =
    told full Limit ∷ told (has_basis before name) Taken ∷ object_mark objects src ∷ object_mark objects tgt ∷ free ∷ []

-- a line behind these lines: 128 basis elements, 64 arrows and 64 relations at most, a unit for an object once, and a product of two basis elements once
abbrev pub line_marks : List (List ℕ) → List BlockLine → BlockLine → List Mark
line_marks objects before (line.Basis b src tgt) = arrow_marks (nat_le 128 (count_by is_basis before)) objects before b src tgt
line_marks objects before (line.Unit x combo) =
    free ∷ (object_mark objects x or_else told (list_any (is_unit_of x) before) Taken) ∷ free ∷ combo_marks before combo ++ free ∷ []
line_marks objects before (line.Product left right combo) =
    free ∷ (told (not (has_basis before left)) Known or_else told (list_any (is_product_of left right) before) Taken)
    ∷ told (not (has_basis before right)) Known ∷ free ∷ combo_marks before combo ++ free ∷ []
line_marks objects before (line.Arrow a src tgt) = arrow_marks (nat_le 64 (count_by is_arrow before)) objects before a src tgt
line_marks objects before (line.Relation sum) = told (nat_le 64 (count_by is_relation before)) Limit ∷ sum_marks before sum ++ free ∷ []

-- the bound of a quiver: 1 to 16
abbrev pub bound_marks : Option ℕ → List Mark
bound_marks None = []
bound_marks (Some n) = free ∷ told (not (nat_le 1 n && nat_le n 16)) Limit ∷ []

-- the objects of a block: 16 at most, and none twice
abbrev pub new_object : List (List ℕ) → ℕ → List ℕ → List Mark
new_object names i name = (told (nat_le 16 i) Limit or_else told (is_among (take i names) name) Taken) ∷ []

abbrev pub objects_marks : List (List ℕ) → List Mark
objects_marks names = each (new_object names) names

-- the first two lines: a block too many, and its name, prime, bound and objects
abbrev pub head_marks : Bool → List Part → Block → List Mark
head_marks full parts b =
    told full Limit ∷ told (has_block parts b.name) Taken ∷ free ∷ told (not (is_tabled b.prime)) Prime ∷ bound_marks b.bound
    ++ free ∷ free ∷ objects_marks b.objects ++ free ∷ []

-- a table in which some object has no unit
abbrev pub lacks_unit : Block → Bool
lacks_unit b = not (is_some b.bound) && not (list_all (λ x. list_any (is_unit_of x) b.lines) b.objects)

abbrev pub end_marks : Block → List Mark
end_marks b = told (lacks_unit b) Sort ∷ free ∷ []

-- a block
abbrev pub line_item : Block → ℕ → BlockLine → List Mark
line_item b i l = line_marks b.objects (take i b.lines) l

abbrev pub lines_marks : Block → List Mark
lines_marks b = each (line_item b) b.lines

abbrev pub block_marks : Bool → List Part → Block → List Mark
block_marks full parts b = head_marks full parts b ++ lines_marks b ++ end_marks b
