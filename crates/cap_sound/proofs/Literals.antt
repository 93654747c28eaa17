-- The marks of integers, paths, terms, matrices and literals fit their texts.
use Rattle.std.proofs.Common.{ℕ, suc, List, [], ◌∷◌, length, Option, Some, None, Bool, true, false}
use Rattle.std.specs.Prelude.{not}
use Rattle.cap_names.specs.declared.reasons.Reason.TheVariants.{Sort}
use Rattle.cap_reading.specs.Languages.{◌·◌, each, some_of}
use Rattle.cap_grammar.specs.declared.symbol.Fixed.TheVariants as word
use Rattle.cap_grammar.specs.declared.tree.IntTok.{IntTok}
use Rattle.cap_grammar.specs.declared.tree.TermTok.{TermTok}
use Rattle.cap_grammar.specs.declared.tree.EntryTok.{EntryTok}
use Rattle.cap_grammar.specs.declared.tree.EntryTok.TheVariants as cell
use Rattle.cap_grammar.specs.declared.tree.RowsTok.{RowsTok}
use Rattle.cap_grammar.specs.declared.tree.ObjTok.{ObjTok}
use Rattle.cap_grammar.specs.declared.tree.ObjTok.TheVariants.{Dim, Parts, Relation, Dims}
use Rattle.cap_grammar.specs.declared.tree.MorTok.{MorTok}
use Rattle.cap_grammar.specs.declared.tree.MorTok.TheVariants as matrices
use Rattle.cap_grammar.specs.declared.tree.Over.{Over}
use Rattle.cap_grammar.specs.declared.tree.Over.TheVariants.{Vec, Add, Freyd, Rep}
use Rattle.cap_grammar.specs.declared.tree.BlockLine.{BlockLine}
use Rattle.cap_grammar.specs.Grammar.{fixed, name, number, sign, int, path, lone, multiple, combo, term, sum, entry, row, inside, rows, list, map, object, morphism}
use Rattle.cap_block_faults.specs.Marks.{Mark, free, told}
use Rattle.cap_block_faults.specs.Marks as marks
use Rattle.cap_block_faults.specs.Names.{Part, objects_of, lines_of, is_quiver}
use Rattle.cap_block_faults.specs.Blocks.{signed, int_marks, path_item, path_marks, term_item, no_limit, most_16, combo_marks, sum_marks}
use Rattle.cap_block_faults.specs.Literals.{coeff_item, entry_marks, entry_item, row_item, rows_marks, part_item, list_marks, map_item, maps_marks, dim_item, other_form, dim_marks, parts_marks, relation_marks, functor_marks, object_marks, matrix_marks, matrix_item, natural_marks, morphism_marks}
use Rattle.cap_sound.proofs.Fits.{Fits, item_one, number_one, none, never, one, ◌then◌, both, front, inward, regrouped, each_fits, some_fits}

signed_fits : (minus : Bool) (n : ℕ) (m : Mark) → Fits (signed minus m) (sign minus · number n)
signed_fits true n m = item_one then one number_one
signed_fits false n m = both [] (m ∷ []) none (one number_one)

pub int_fits : (m : Mark) (i : IntTok) → Fits (int_marks m i) (int i)
int_fits m i = signed_fits i.minus i.digits m

pub path_fits : (lines : List BlockLine) (star whole : Mark) (names : List (List ℕ)) → Fits (path_marks lines star whole names) (path names)
path_fits lines star whole names = some_fits (path_item lines star whole) name (λ n. fixed word.Star · name n) (λ n. one item_one) (λ i n. item_one then one item_one) names

lone_fits : (lines : List BlockLine) (names : List (List ℕ)) → Fits (path_marks lines free free names) (lone names)
lone_fits lines [] = never
lone_fits lines (n ∷ []) = one item_one
lone_fits lines (n ∷ m ∷ others) = never

-- a term, the first token of which has the mark
module _ (lines : List BlockLine) (at : ℕ → Mark) where
  multiple_first : (t : TermTok) → Fits (term_item lines at 0 t) (multiple t)
  multiple_first t = both (int_marks (at 0) t.coeff) (path_marks lines free free t.path) (int_fits (at 0) t.coeff) (lone_fits lines t.path)

  multiple_later : (i : ℕ) (t : TermTok) → Fits (term_item lines at (suc i) t) (fixed word.Plus · multiple t)
  multiple_later i t = item_one then both (int_marks (at (suc i)) t.coeff) (path_marks lines free free t.path) (int_fits (at (suc i)) t.coeff) (lone_fits lines t.path)

  term_first : (t : TermTok) → Fits (term_item lines at 0 t) (term t)
  term_first t = both (int_marks (at 0) t.coeff) (path_marks lines free free t.path) (int_fits (at 0) t.coeff) (path_fits lines free free t.path)

  term_later : (i : ℕ) (t : TermTok) → Fits (term_item lines at (suc i) t) (fixed word.Plus · term t)
  term_later i t = item_one then both (int_marks (at (suc i)) t.coeff) (path_marks lines free free t.path) (int_fits (at (suc i)) t.coeff) (path_fits lines free free t.path)

pub combo_fits : (lines : List BlockLine) (ts : List TermTok) → Fits (combo_marks lines ts) (combo ts)
combo_fits lines [] = one item_one
combo_fits lines (t ∷ ts) = some_fits (term_item lines no_limit) multiple (λ x. fixed word.Plus · multiple x) (multiple_first lines no_limit) (multiple_later lines no_limit) (t ∷ ts)

pub sum_fits : (lines : List BlockLine) (ts : List TermTok) → Fits (sum_marks lines ts) (sum ts)
sum_fits lines ts = some_fits (term_item lines most_16) term (λ x. fixed word.Plus · term x) (term_first lines most_16) (term_later lines most_16) ts

-- a matrix
entry_fits : (coeffs : Bool) (e : EntryTok) → Fits (entry_marks coeffs e) (entry e)
entry_fits coeffs (cell.Int i) = int_fits (told coeffs Sort) i
entry_fits coeffs (cell.Coeffs is) = item_one then both (marks.each coeff_item is) (free ∷ []) (each_fits coeff_item int (λ j i. int_fits free i) 0 is) (one item_one)

row_fits : (coeffs : Bool) (es : List EntryTok) → Fits (marks.each (entry_item coeffs) es) (row es)
row_fits coeffs es = some_fits (entry_item coeffs) entry entry (entry_fits coeffs) (λ i e. entry_fits coeffs e) es

inside_fits : (coeffs : Bool) (rs : List (List EntryTok)) → Fits (marks.each (row_item coeffs) rs) (inside rs)
inside_fits coeffs [] = none
inside_fits coeffs (r ∷ rs) = some_fits (row_item coeffs) row (λ x. fixed word.Semicolon · row x) (row_fits coeffs) (λ i x. item_one then row_fits coeffs x) (r ∷ rs)

pub rows_fits : (begins : Mark) (coeffs : Bool) (m : RowsTok) → Fits (rows_marks begins coeffs m) (rows m)
rows_fits begins coeffs m = item_one then both (marks.each (row_item coeffs) m.rows) (free ∷ []) (inside_fits coeffs m.rows) (one item_one)

list_fits : (objects : List (List ℕ)) (names : List (List ℕ)) → Fits (list_marks objects names) (list names)
list_fits objects names = item_one then both (marks.each (part_item objects) names) (free ∷ []) (each_fits (part_item objects) name (λ i n. one item_one) 0 names) (one item_one)

-- maps
map_fits : (lines : List BlockLine) (table : Bool) (maps : List (List (List ℕ) × RowsTok)) (i : ℕ) (m : List (List ℕ) × RowsTok) → Fits (map_item lines table maps i m) (map m)
map_fits lines table maps i m = both _ _ (path_fits lines _ _ m.0) (item_one then rows_fits free false m.1)

maps_fits : (lines : List BlockLine) (table : Bool) (maps : List (List (List ℕ) × RowsTok)) → Fits (maps_marks lines table maps) (each map maps)
maps_fits lines table maps = each_fits (map_item lines table maps) map (map_fits lines table maps) 0 maps

dims_fits : (objects : ℕ) (dims : List ℕ) → Fits (marks.each (dim_item objects) dims) (some_of number number dims)
dims_fits objects dims = some_fits (dim_item objects) number number (λ n. one number_one) (λ i n. one number_one) dims

-- a functor: where the dimensions are too few, the token behind them is marked, which is `maps` or the end of the line
functor_fits : (objects : ℕ) (lines : List BlockLine) (table : Bool) (dims : List ℕ) (maps : Option (List (List (List ℕ) × RowsTok))) → Fits (functor_marks objects lines table (Dims dims maps)) (object (Dims dims maps) · fixed word.Newline)
functor_fits objects lines table dims None =
    inward (item_one then inward (regrouped (marks.each (dim_item objects) dims) _ _ (both _ _ (dims_fits objects dims) (both [] _ none (one item_one)))))
functor_fits objects lines table dims (Some maps) =
    inward (item_one then inward (regrouped (marks.each (dim_item objects) dims) _ _ (both _ _ (dims_fits objects dims) (front (item_one then maps_fits lines table maps)))))

-- another kind's form
other_fits : (lit : ObjTok) → Fits (other_form lit) (object lit · fixed word.Newline)
other_fits (Dim n) = front (one number_one)
other_fits (Parts names) = front (item_one then none)
other_fits (Relation src tgt rho) = front (front (item_one then none))
other_fits (Dims dims maps) = front (item_one then none)

-- object literals, and the end of their line
dim_fits : (lit : ObjTok) → Fits (dim_marks lit) (object lit · fixed word.Newline)
dim_fits (Dim n) = front (one number_one)
dim_fits (Parts names) = other_fits (Parts names)
dim_fits (Relation src tgt rho) = other_fits (Relation src tgt rho)
dim_fits (Dims dims maps) = other_fits (Dims dims maps)

parts_fits : (objects : List (List ℕ)) (lit : ObjTok) → Fits (parts_marks objects lit) (object lit · fixed word.Newline)
parts_fits objects (Dim n) = other_fits (Dim n)
parts_fits objects (Parts names) = front (list_fits objects names)
parts_fits objects (Relation src tgt rho) = other_fits (Relation src tgt rho)
parts_fits objects (Dims dims maps) = other_fits (Dims dims maps)

relation_fits : (objects : List (List ℕ)) (lit : ObjTok) → Fits (relation_marks objects lit) (object lit · fixed word.Newline)
relation_fits objects (Dim n) = other_fits (Dim n)
relation_fits objects (Parts names) = other_fits (Parts names)
relation_fits objects (Relation src tgt rho) =
    front (regrouped (list_marks objects src) (free ∷ list_marks objects tgt) (rows_marks free true rho) (both (list_marks objects src) _ (list_fits objects src) (item_one then both (list_marks objects tgt) _ (list_fits objects tgt) (rows_fits free true rho))))
relation_fits objects (Dims dims maps) = other_fits (Dims dims maps)

rep_fits : (objects : ℕ) (lines : List BlockLine) (table : Bool) (lit : ObjTok) → Fits (functor_marks objects lines table lit) (object lit · fixed word.Newline)
rep_fits objects lines table (Dim n) = other_fits (Dim n)
rep_fits objects lines table (Parts names) = other_fits (Parts names)
rep_fits objects lines table (Relation src tgt rho) = other_fits (Relation src tgt rho)
rep_fits objects lines table (Dims dims maps) = functor_fits objects lines table dims maps

pub object_fits : (parts : List Part) (over : Over) (lit : ObjTok) → Fits (object_marks parts over lit) (object lit · fixed word.Newline)
object_fits parts (Vec prime) lit = dim_fits lit
object_fits parts (Add t) lit = parts_fits (objects_of parts t) lit
object_fits parts (Freyd t) lit = relation_fits (objects_of parts t) lit
object_fits parts (Rep t) lit = rep_fits (length (objects_of parts t)) (lines_of parts t) (not (is_quiver parts t)) lit

-- morphism literals
matrix_fits : (coeffs : Bool) (lit : MorTok) → Fits (matrix_marks coeffs lit) (morphism lit)
matrix_fits coeffs (matrices.Rows m) = rows_fits free coeffs m
matrix_fits coeffs (matrices.Parts ms) = item_one then none

natural_fits : (objects : ℕ) (lit : MorTok) → Fits (natural_marks objects lit) (morphism lit)
natural_fits objects (matrices.Rows m) = item_one then none
natural_fits objects (matrices.Parts ms) =
    item_one then both (marks.each (matrix_item objects) ms) _ (each_fits (matrix_item objects) rows (λ i m. rows_fits _ false m) 0 ms) (one item_one)

pub morphism_fits : (parts : List Part) (over : Over) (lit : MorTok) → Fits (morphism_marks parts over lit) (morphism lit)
morphism_fits parts (Vec prime) lit = matrix_fits false lit
morphism_fits parts (Add t) lit = matrix_fits true lit
morphism_fits parts (Freyd t) lit = matrix_fits true lit
morphism_fits parts (Rep t) lit = natural_fits (length (objects_of parts t)) lit
