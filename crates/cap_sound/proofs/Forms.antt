-- A literal whose marks are free has the form of its category.
use Rattle.std.proofs.Common.{◌≡◌, refl, ℕ, suc, ◌+◌, ◌<◌, ◌≤◌, List, [], ◌∷◌, ◌++◌, length, take, arith, Option, Some, None, Bool, true, false, cond}
use Rattle.std.specs.Prelude.{not, nat_le, nat_lt, ◌||◌}
use Rattle.std.specs.List.{All, list_any, position_or_len}
use Rattle.std.proofs.lemmas.List.Elements.{All-nil, All-cons}
use Rattle.cap_names.specs.declared.reasons.Reason.{Reason}
use Rattle.cap_names.specs.declared.reasons.Reason.TheVariants.{Known, Taken, Sort, Limit}
use Rattle.cap_reading.specs.Languages.{◌·◌, each, maybe}
use Rattle.cap_grammar.specs.declared.symbol.Fixed.TheVariants as word
use Rattle.cap_grammar.specs.declared.symbol.Symbol.{Symbol}
use Rattle.cap_grammar.specs.declared.tree.IntTok.{IntTok}
use Rattle.cap_grammar.specs.declared.tree.EntryTok.{EntryTok}
use Rattle.cap_grammar.specs.declared.tree.EntryTok.TheVariants as cell
use Rattle.cap_grammar.specs.declared.tree.RowsTok.{RowsTok}
use Rattle.cap_grammar.specs.declared.tree.ObjTok.{ObjTok}
use Rattle.cap_grammar.specs.declared.tree.ObjTok.TheVariants.{Dim, Parts, Relation, Dims}
use Rattle.cap_grammar.specs.declared.tree.MorTok.{MorTok}
use Rattle.cap_grammar.specs.declared.tree.MorTok.TheVariants as matrices
use Rattle.cap_grammar.specs.declared.tree.Over.{Over}
use Rattle.cap_grammar.specs.declared.tree.Over.TheVariants.{Vec, Add, Freyd, Rep}
use Rattle.cap_grammar.specs.declared.tree.BlockLine.{BlockLine}
use Rattle.cap_grammar.specs.declared.tree.BlockLine.TheVariants as line
use Rattle.cap_grammar.specs.Grammar.{path}
use Rattle.cap_grammar.specs.Grammar as grammar
use Rattle.cap_block_faults.specs.Marks.{Mark, free, told, ◌or_else◌, each_from, separator, at_first}
use Rattle.cap_block_faults.specs.Marks as marks
use Rattle.cap_block_faults.specs.Names.{Part, same, is_among, has_basis, objects_of, lines_of, is_quiver}
use Rattle.cap_block_faults.specs.Blocks.{signed, path_item, path_marks}
use Rattle.cap_block_faults.specs.Literals.{entry_marks, entry_item, row_item, rows_marks, part_item, list_marks, has_map, map_item, some_maps, dim_item, dims_marks, dim_marks, parts_marks, relation_marks, functor_marks, object_marks, matrix_marks, matrix_item, natural_marks, morphism_marks}
use Rattle.cap_checked.specs.Checked.{basis, listed}
use Rattle.cap_sound.specs.Forms.{IsThere, IsShort, IsEntry, HasEntries, AreObjects, IsMap, IsFunctor, IsMatrixObject, IsSumObject, IsFreydObject, IsFunctorObject, HasObjectForm, IsMatrix, IsNatural, HasMorphismForm}
use Rattle.cap_sound.proofs.Symbols.{AllShort, short_front, short_rest}
use Rattle.cap_sound.proofs.Integers.{number_small}
use Rattle.cap_sound.proofs.Faults.{AllFree, free_front, free_rest, untold, neither, below, at_most}
use Rattle.cap_sound.proofs.Dimensions.{no_other, dims_ranged, known, dims_all}

-- a mark that tells is not free
pub no_mark : {A : Type 0} (r : Reason) → told true r ≡ None → A
no_mark r e = absurd (cc)

-- one that passes the test stands before the end
before_step : {A : Type 0} (b rest : Bool) (n : ℕ) (x : A) (xs : List A) → (rest ≡ true → n < length xs) → (b || rest) ≡ true → cond (not b) (1 + n) 0 < length (x ∷ xs)
before_step true rest n x xs more h = omega arith
before_step false rest n x xs more h = let k = more h in omega (arith, k)

before_end : {A : Type 0} (p : A → Bool) (xs : List A) → list_any p xs ≡ true → position_or_len p xs < length xs
before_end p [] h = absurd (cc)
before_end p (x ∷ xs) h = before_step (p x) (list_any p xs) (position_or_len p xs) x xs (before_end p xs) h

object_there : (objects : List (List ℕ)) (name : List ℕ) → told (not (is_among objects name)) Known ≡ None → IsThere objects name
object_there objects name e = before_end (λ other. same other name) objects (known (is_among objects name) (untold (not (is_among objects name)) Known e))

-- a basis element, or an arrow
passes : (b rest : Bool) → rest ≡ true → (b || rest) ≡ true
passes true rest e = refl
passes false rest e = e

one_more : (name other : List ℕ) (rest : Bool) (names : List (List ℕ)) → (rest ≡ true → list_any (λ x. same x name) names ≡ true) → (same other name || rest) ≡ true → list_any (λ x. same x name) (other ∷ names) ≡ true
one_more name other rest names more h = go (same other name) h
  where
    go : (b : Bool) → (b || rest) ≡ true → (b || list_any (λ x. same x name) names) ≡ true
    go true e = refl
    go false e = more e

among : (ls : List BlockLine) (name : List ℕ) → has_basis ls name ≡ true → list_any (λ other. same other name) (basis ls) ≡ true
among [] name h = absurd (cc)
among (line.Basis b src tgt ∷ ls) name h = one_more name b (has_basis ls name) (basis ls) (among ls name) h
among (line.Unit x c ∷ ls) name h = among ls name h
among (line.Product left right c ∷ ls) name h = among ls name h
among (line.Arrow a src tgt ∷ ls) name h = one_more name a (has_basis ls name) (basis ls) (among ls name) h
among (line.Relation s ∷ ls) name h = among ls name h

basis_there : (ls : List BlockLine) (name : List ℕ) → told (not (has_basis ls name)) Known ≡ None → IsThere (basis ls) name
basis_there ls name e = before_end (λ other. same other name) (basis ls) (among ls name (known (has_basis ls name) (untold (not (has_basis ls name)) Known e)))

path_there : (ls : List BlockLine) (star whole : Mark) (i : ℕ) (names : List (List ℕ)) → AllFree (each_from (path_item ls star whole) i names) → All (IsThere (basis ls)) names
path_there ls star whole i [] f = All-nil (IsThere (basis ls))
path_there ls star whole i (n ∷ names) f =
    let here = free_rest (separator i star) _ (free_front (path_item ls star whole i n) (each_from (path_item ls star whole) (suc i) names) f) in
    let e = (neither (told (not (has_basis ls n)) Known) (at_first i whole) here.0).0 in
    All-cons (IsThere (basis ls)) n names (basis_there ls n e) (path_there ls star whole (suc i) names (free_rest (path_item ls star whole i n) (each_from (path_item ls star whole) (suc i) names) f))

-- no star in a table
alone : (ls : List BlockLine) (whole : Mark) (table : Bool) (names : List (List ℕ)) → AllFree (path_marks ls (told table Sort) whole names) → 1 ≤ length names → table ≡ true → length names ≡ 1
alone ls whole table [] f h e = absurd (omega (arith, h))
alone ls whole table (n ∷ []) f h e = omega arith
alone ls whole false (n ∷ m ∷ names) f h e = absurd (cc)
alone ls whole true (n ∷ m ∷ names) f h e = no_mark Sort f.1.0

path_some : (names : List (List ℕ)) (l : List Symbol) → path names l → 1 ≤ length names
path_some [] l t = absurd t
path_some (n ∷ names) l t = omega arith

-- matrices
signed_free : (minus : Bool) (m : Mark) → AllFree (signed minus m) → m ≡ None
signed_free true m f = f.0
signed_free false m f = f.0

each_short : (is : List IntTok) (l : List Symbol) → each grammar.int is l → AllShort l → All IsShort is
each_short [] l t h = All-nil IsShort
each_short (i ∷ is) l t h =
    let own = short_front l t h in
    All-cons IsShort i is (number_small i.digits t.first.rest t.first.second (short_rest t.front t.first own)) (each_short is t.rest t.second (short_rest l t h))

entry_form : (coeffs : Bool) (e : EntryTok) (l : List Symbol) → grammar.entry e l → AllShort l → AllFree (entry_marks coeffs e) → IsEntry coeffs e
entry_form false (cell.Int i) l t h f = number_small i.digits t.rest t.second (short_rest l t h)
entry_form true (cell.Int i) l t h f = no_mark Sort (signed_free i.minus (told true Sort) f)
entry_form false (cell.Coeffs is) l t h f = no_mark Sort f.0
entry_form true (cell.Coeffs is) l t h f = each_short is t.second.front t.second.first (short_front t.rest t.second (short_rest l t h))

entries_form : (coeffs : Bool) (j : ℕ) (es : List EntryTok) (l : List Symbol) → each grammar.entry es l → AllShort l → AllFree (each_from (entry_item coeffs) j es) → All (IsEntry coeffs) es
entries_form coeffs j [] l t h f = All-nil (IsEntry coeffs)
entries_form coeffs j (e ∷ es) l t h f =
    All-cons (IsEntry coeffs) e es (entry_form coeffs e t.front t.first (short_front l t h) (free_front (entry_marks coeffs e) (each_from (entry_item coeffs) (suc j) es) f))
    (entries_form coeffs (suc j) es t.rest t.second (short_rest l t h) (free_rest (entry_marks coeffs e) (each_from (entry_item coeffs) (suc j) es) f))

-- a row is entries, of which one is the first
row_form : (coeffs : Bool) (es : List EntryTok) (l : List Symbol) → grammar.row es l → AllShort l → AllFree (each_from (entry_item coeffs) 0 es) → All (IsEntry coeffs) es
row_form coeffs [] l t h f = absurd t
row_form coeffs (e ∷ es) l t h f = entries_form coeffs 0 (e ∷ es) l t h f

later_form : (coeffs : Bool) (i : ℕ) (rs : List (List EntryTok)) (l : List Symbol) → each (λ r. grammar.fixed word.Semicolon · grammar.row r) rs l → AllShort l → AllFree (each_from (row_item coeffs) i rs) → All (λ row. All (IsEntry coeffs) row) rs
later_form coeffs i [] l t h f = All-nil (λ row. All (IsEntry coeffs) row)
later_form coeffs i (r ∷ rs) l t h f =
    let here = free_rest (separator i free) (each_from (entry_item coeffs) 0 r) (free_front (row_item coeffs i r) (each_from (row_item coeffs) (suc i) rs) f) in
    let own = short_front l t h in
    All-cons (λ row. All (IsEntry coeffs) row) r rs (row_form coeffs r t.first.rest t.first.second (short_rest t.front t.first own) here)
    (later_form coeffs (suc i) rs t.rest t.second (short_rest l t h) (free_rest (row_item coeffs i r) (each_from (row_item coeffs) (suc i) rs) f))

inside_form : (coeffs : Bool) (rs : List (List EntryTok)) (l : List Symbol) → grammar.inside rs l → AllShort l → AllFree (each_from (row_item coeffs) 0 rs) → All (λ row. All (IsEntry coeffs) row) rs
inside_form coeffs [] l t h f = All-nil (λ row. All (IsEntry coeffs) row)
inside_form coeffs (r ∷ rs) l t h f =
    let here = free_front (row_item coeffs 0 r) (each_from (row_item coeffs) 1 rs) f in
    All-cons (λ row. All (IsEntry coeffs) row) r rs (row_form coeffs r t.front t.first (short_front l t h) here)
    (later_form coeffs 1 rs t.rest t.second (short_rest l t h) (free_rest (row_item coeffs 0 r) (each_from (row_item coeffs) 1 rs) f))

rows_form : (begins : Mark) (coeffs : Bool) (m : RowsTok) (l : List Symbol) → grammar.rows m l → AllShort l → AllFree (rows_marks begins coeffs m) → HasEntries coeffs m
rows_form begins coeffs m l t h f =
    inside_form coeffs m.rows t.second.front t.second.first (short_front t.rest t.second (short_rest l t h)) (free_front (marks.each (row_item coeffs) m.rows) (free ∷ []) f.1)

-- lists of objects
list_few : (objects : List (List ℕ)) (i : ℕ) (names : List (List ℕ)) → AllFree (each_from (part_item objects) i names) → i ≤ 64 → i + length names ≤ 64
list_few objects i [] f h = omega (arith, h)
list_few objects i (n ∷ names) f h =
    let lt = below 64 i Limit (neither (told (nat_le 64 i) Limit) (told (not (is_among objects n)) Known) f.0).0 in
    let more = list_few objects (suc i) names f.1 (omega (arith, lt)) in
    omega (arith, more)

list_there : (objects : List (List ℕ)) (i : ℕ) (names : List (List ℕ)) → AllFree (each_from (part_item objects) i names) → All (IsThere objects) names
list_there objects i [] f = All-nil (IsThere objects)
list_there objects i (n ∷ names) f =
    All-cons (IsThere objects) n names (object_there objects n (neither (told (nat_le 64 i) Limit) (told (not (is_among objects n)) Known) f.0).1) (list_there objects (suc i) names f.1)

list_form : (objects names : List (List ℕ)) → AllFree (list_marks objects names) → AreObjects objects names
list_form objects names f =
    let own = free_front (marks.each (part_item objects) names) (free ∷ []) f.1 in
    let few = list_few objects 0 names own (omega arith) in
    (omega (arith, few), list_there objects 0 names own)

-- functors
map_form : (ls : List BlockLine) (table : Bool) (maps : List (List (List ℕ) × RowsTok)) (i : ℕ) (m : List (List ℕ) × RowsTok) (l : List Symbol) → grammar.map m l → AllShort l → AllFree (map_item ls table maps i m) → IsMap table (basis ls) m
map_form ls table maps i m l t h f =
    let star = told table Sort in
    let whole = told (has_map (take i maps) m.0) Taken in
    let own = free_front (path_marks ls star whole m.0) (free ∷ rows_marks free false m.1) f in
    let some = path_some m.0 t.front t.first in
    record {
      some = some;
      one = alone ls whole table m.0 own some;
      there = path_there ls star whole 0 m.0 own;
      entries = rows_form free false m.1 t.second.rest t.second.second (short_rest t.rest t.second (short_rest l t h)) (free_rest (path_marks ls star whole m.0) (free ∷ rows_marks free false m.1) f).1;
    }

maps_form : (ls : List BlockLine) (table : Bool) (all : List (List (List ℕ) × RowsTok)) (i : ℕ) (maps : List (List (List ℕ) × RowsTok)) (l : List Symbol) → each grammar.map maps l → AllShort l → AllFree (each_from (map_item ls table all) i maps) → All (IsMap table (basis ls)) maps
maps_form ls table all i [] l t h f = All-nil (IsMap table (basis ls))
maps_form ls table all i (m ∷ maps) l t h f =
    All-cons (IsMap table (basis ls)) m maps (map_form ls table all i m t.front t.first (short_front l t h) (free_front (map_item ls table all i m) (each_from (map_item ls table all) (suc i) maps) f))
    (maps_form ls table all (suc i) maps t.rest t.second (short_rest l t h) (free_rest (map_item ls table all i m) (each_from (map_item ls table all) (suc i) maps) f))

listed_form : (ls : List BlockLine) (table : Bool) (maps : Option (List (List (List ℕ) × RowsTok))) (l : List Symbol) → maybe (λ ms. grammar.fixed word.Maps · each grammar.map ms) maps l → AllShort l → AllFree (some_maps ls table maps) → All (IsMap table (basis ls)) (listed maps)
listed_form ls table None l t h f = All-nil (IsMap table (basis ls))
listed_form ls table (Some maps) l t h f = maps_form ls table maps 0 maps t.rest t.second (short_rest l t h) f

dims_few : (objects i : ℕ) (dims : List ℕ) → AllFree (each_from (dim_item objects) i dims) → i ≤ objects → i + length dims ≤ objects
dims_few objects i [] f h = omega (arith, h)
dims_few objects i (n ∷ dims) f h =
    let lt = below objects i Sort (neither (told (nat_lt 2048 n) Limit) (told (nat_le objects i) Sort) f.0).1 in
    let more = dims_few objects (suc i) dims f.1 (omega (arith, lt)) in
    omega (arith, more)

functor_form : (objects : ℕ) (ls : List BlockLine) (table : Bool) (dims : List ℕ) (maps : Option (List (List (List ℕ) × RowsTok))) (l : List Symbol) → grammar.object (Dims dims maps) l → AllShort l → AllFree (functor_marks objects ls table (Dims dims maps)) → IsFunctor objects table (basis ls) dims (listed maps)
functor_form objects ls table dims maps l t h f =
    let front = (free_front (dims_marks objects dims) (some_maps ls table maps) f).1 in
    let own = free_front (marks.each (dim_item objects) dims) (told (nat_lt (length dims) objects) Sort ∷ []) front in
    let few = dims_few objects 0 dims own (omega arith) in
    let enough = at_most (length dims) objects Sort (free_rest (marks.each (dim_item objects) dims) (told (nat_lt (length dims) objects) Sort ∷ []) front).0 in
    record {
      each_dim = omega (arith, few, enough);
      most = dims_all dims (dims_ranged objects 0 dims own);
      each_map = listed_form ls table maps t.second.rest t.second.second (short_rest t.rest t.second (short_rest l t h)) (free_rest (dims_marks objects dims) (some_maps ls table maps) f);
    }

-- object literals
matrix_object : (lit : ObjTok) → AllFree (dim_marks lit) → IsMatrixObject lit
matrix_object (Dim n) f = at_most 2048 n Limit f.0
matrix_object (Parts names) f = no_other (Parts names) f
matrix_object (Relation src tgt rho) f = no_other (Relation src tgt rho) f
matrix_object (Dims dims maps) f = no_other (Dims dims maps) f

sum_object : (objects : List (List ℕ)) (lit : ObjTok) → AllFree (parts_marks objects lit) → IsSumObject objects lit
sum_object objects (Dim n) f = no_other (Dim n) f
sum_object objects (Parts names) f = list_form objects names f
sum_object objects (Relation src tgt rho) f = no_other (Relation src tgt rho) f
sum_object objects (Dims dims maps) f = no_other (Dims dims maps) f

freyd_object : (objects : List (List ℕ)) (lit : ObjTok) (l : List Symbol) → grammar.object lit l → AllShort l → AllFree (relation_marks objects lit) → IsFreydObject objects lit
freyd_object objects (Dim n) l t h f = no_other (Dim n) f
freyd_object objects (Parts names) l t h f = no_other (Parts names) f
freyd_object objects (Relation src tgt rho) l t h f =
    let lists = free_front (list_marks objects src ++ free ∷ list_marks objects tgt) (rows_marks free true rho) f in
    let matrix = t.second.second in (
      list_form objects src (free_front (list_marks objects src) (free ∷ list_marks objects tgt) lists),
      list_form objects tgt (free_rest (list_marks objects src) (free ∷ list_marks objects tgt) lists).1,
      rows_form free true rho matrix.rest matrix.second (short_rest t.second.rest matrix (short_rest t.rest t.second (short_rest l t h))) (free_rest (list_marks objects src ++ free ∷ list_marks objects tgt) (rows_marks free true rho) f),
    )
freyd_object objects (Dims dims maps) l t h f = no_other (Dims dims maps) f

functor_object : (objects : ℕ) (ls : List BlockLine) (table : Bool) (lit : ObjTok) (l : List Symbol) → grammar.object lit l → AllShort l → AllFree (functor_marks objects ls table lit) → IsFunctorObject objects table (basis ls) lit
functor_object objects ls table (Dim n) l t h f = no_other (Dim n) f
functor_object objects ls table (Parts names) l t h f = no_other (Parts names) f
functor_object objects ls table (Relation src tgt rho) l t h f = no_other (Relation src tgt rho) f
functor_object objects ls table (Dims dims maps) l t h f = functor_form objects ls table dims maps l t h f

pub object_form : (parts : List Part) (over : Over) (lit : ObjTok) (l : List Symbol) → grammar.object lit l → AllShort l → AllFree (object_marks parts over lit) → HasObjectForm parts over lit
object_form parts (Vec prime) lit l t h f = matrix_object lit f
object_form parts (Add block) lit l t h f = sum_object (objects_of parts block) lit f
object_form parts (Freyd block) lit l t h f = freyd_object (objects_of parts block) lit l t h f
object_form parts (Rep block) lit l t h f = functor_object (length (objects_of parts block)) (lines_of parts block) (not (is_quiver parts block)) lit l t h f

-- morphism literals
one_matrix : (coeffs : Bool) (lit : MorTok) (l : List Symbol) → grammar.morphism lit l → AllShort l → AllFree (matrix_marks coeffs lit) → IsMatrix coeffs lit
one_matrix coeffs (matrices.Rows m) l t h f = rows_form free coeffs m l t h f
one_matrix coeffs (matrices.Parts ms) l t h f = no_mark Sort f.0

matrices_few : (objects i : ℕ) (ms : List RowsTok) → AllFree (each_from (matrix_item objects) i ms) → i ≤ objects → i + length ms ≤ objects
matrices_few objects i [] f h = omega (arith, h)
matrices_few objects i (m ∷ ms) f h =
    let lt = below objects i Sort f.0 in
    let more = matrices_few objects (suc i) ms (free_rest (matrix_item objects i m) (each_from (matrix_item objects) (suc i) ms) f) (omega (arith, lt)) in
    omega (arith, more)

matrices_form : (objects i : ℕ) (ms : List RowsTok) (l : List Symbol) → each grammar.rows ms l → AllShort l → AllFree (each_from (matrix_item objects) i ms) → All (HasEntries false) ms
matrices_form objects i [] l t h f = All-nil (HasEntries false)
matrices_form objects i (m ∷ ms) l t h f =
    All-cons (HasEntries false) m ms (rows_form (told (nat_le objects i) Sort) false m t.front t.first (short_front l t h) (free_front (matrix_item objects i m) (each_from (matrix_item objects) (suc i) ms) f))
    (matrices_form objects (suc i) ms t.rest t.second (short_rest l t h) (free_rest (matrix_item objects i m) (each_from (matrix_item objects) (suc i) ms) f))

natural : (objects : ℕ) (lit : MorTok) (l : List Symbol) → grammar.morphism lit l → AllShort l → AllFree (natural_marks objects lit) → IsNatural objects lit
natural objects (matrices.Rows m) l t h f = no_mark Sort f.0
natural objects (matrices.Parts ms) l t h f =
    let own = free_front (marks.each (matrix_item objects) ms) (told (nat_lt (length ms) objects) Sort ∷ []) f.1 in
    let few = matrices_few objects 0 ms own (omega arith) in
    let enough = at_most (length ms) objects Sort (free_rest (marks.each (matrix_item objects) ms) (told (nat_lt (length ms) objects) Sort ∷ []) f.1).0 in
    (omega (arith, few, enough), matrices_form objects 0 ms t.second.front t.second.first (short_front t.rest t.second (short_rest l t h)) own)

pub morphism_form : (parts : List Part) (over : Over) (lit : MorTok) (l : List Symbol) → grammar.morphism lit l → AllShort l → AllFree (morphism_marks parts over lit) → HasMorphismForm parts over lit
morphism_form parts (Vec prime) lit l t h f = one_matrix false lit l t h f
morphism_form parts (Add block) lit l t h f = one_matrix true lit l t h f
morphism_form parts (Freyd block) lit l t h f = one_matrix true lit l t h f
morphism_form parts (Rep block) lit l t h f = natural (length (objects_of parts block)) lit l t h f
