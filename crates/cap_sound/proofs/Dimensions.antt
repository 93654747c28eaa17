-- The dimensions of a script without faults are at most 2,048.
use Rattle.std.proofs.Common.{◌≡◌, refl, ℕ, suc, ◌≤◌, List, [], ◌∷◌, ◌++◌, length, Option, Some, None, Bool, true, false, cond}
use Rattle.std.specs.Prelude.{find, not, nat_lt, ◌||◌}
use Rattle.std.specs.List.{All, list_any}
use Rattle.std.proofs.lemmas.List.Elements.{All-nil, All-cons}
use Rattle.cap_names.specs.declared.reasons.Reason.TheVariants.{Known, Sort, Limit}
use Rattle.cap_grammar.specs.declared.tree.ObjTok.{ObjTok}
use Rattle.cap_grammar.specs.declared.tree.ObjTok.TheVariants.{Dim, Parts, Relation, Dims}
use Rattle.cap_grammar.specs.declared.tree.MorTok.{MorTok}
use Rattle.cap_grammar.specs.declared.tree.Over.{Over}
use Rattle.cap_grammar.specs.declared.tree.Over.TheVariants.{Vec, Add, Freyd, Rep}
use Rattle.cap_grammar.specs.declared.tree.BlockLine.{BlockLine}
use Rattle.cap_grammar.specs.declared.tree.Item.{Item}
use Rattle.cap_grammar.specs.declared.tree.Item.TheVariants as top
use Rattle.cap_grammar.specs.declared.tree.Command.{Command}
use Rattle.cap_grammar.specs.declared.tree.Command.TheVariants.{Register, Finalise, Plan, Object, Src, Tgt, Let, Call}
use Rattle.cap_block_faults.specs.Marks.{Mark, free, told, each_from}
use Rattle.cap_block_faults.specs.Marks as marks
use Rattle.cap_block_faults.specs.Names.{Part, objects_of, lines_of, is_quiver, is_category, is_category_named, has_category, over_in, found, over_of}
use Rattle.cap_block_faults.specs.Literals.{some_maps, dim_item, dims_marks, other_form, dim_marks, parts_marks, relation_marks, functor_marks, object_marks}
use Rattle.cap_faults.specs.declared.values.Value.{Value}
use Rattle.cap_faults.specs.Commands.{object_literal, Scope, scope, command_marks}
use Rattle.cap_faults.specs.Scripts.{item_marks}
use Rattle.cap_sound.specs.Dimensions.{dimensions, command_dimensions, item_dimensions}
use Rattle.cap_sound.proofs.Faults.{AllFree, free_front, untold, neither, at_most}

-- each of them is
abbrev pub AreDims : List ℕ → Type 0
AreDims [] = Unit {0}
AreDims (n ∷ ns) = (n ≤ 2048) × AreDims ns

pub dims_append : (a b : List ℕ) → AreDims a → AreDims b → AreDims (a ++ b)
dims_append [] b h k = k
dims_append (n ∷ a) b h k = (h.0, dims_append a b h.1 k)

pub dims_all : (ns : List ℕ) → AreDims ns → All (λ n. n ≤ 2048) ns
dims_all [] h = All-nil (λ n. n ≤ 2048)
dims_all (n ∷ ns) h = All-cons (λ n. n ≤ 2048) n ns h.0 (dims_all ns h.1)

-- another kind's form has a fault
pub no_other : {A : Type 0} (lit : ObjTok) → AllFree (other_form lit) → A
no_other (Dim n) f = absurd (let e : Some Sort ≡ None = (neither (told (nat_lt 2048 n) Limit) (told true Sort) f.0).1 in cc)
no_other (Parts names) f = absurd (let e : Some Sort ≡ None = f.0 in cc)
no_other (Relation src tgt rho) f = absurd (let e : Some Sort ≡ None = f.0 in cc)
no_other (Dims dims maps) f = absurd (let e : Some Sort ≡ None = f.0 in cc)

pub dims_ranged : (objects i : ℕ) (dims : List ℕ) → AllFree (each_from (dim_item objects) i dims) → AreDims dims
dims_ranged objects i [] f = tt
dims_ranged objects i (n ∷ dims) f = (at_most 2048 n Limit (neither _ _ f.0).0, dims_ranged objects (suc i) dims f.1)

dim_ranged : (lit : ObjTok) → AllFree (dim_marks lit) → AreDims (dimensions lit)
dim_ranged (Dim n) f = (at_most 2048 n Limit f.0, tt)
dim_ranged (Parts names) f = tt
dim_ranged (Relation src tgt rho) f = tt
dim_ranged (Dims dims maps) f = no_other (Dims dims maps) f

parts_ranged : (objects : List (List ℕ)) (lit : ObjTok) → AllFree (parts_marks objects lit) → AreDims (dimensions lit)
parts_ranged objects (Dim n) f = no_other (Dim n) f
parts_ranged objects (Parts names) f = tt
parts_ranged objects (Relation src tgt rho) f = tt
parts_ranged objects (Dims dims maps) f = no_other (Dims dims maps) f

relation_ranged : (objects : List (List ℕ)) (lit : ObjTok) → AllFree (relation_marks objects lit) → AreDims (dimensions lit)
relation_ranged objects (Dim n) f = no_other (Dim n) f
relation_ranged objects (Parts names) f = tt
relation_ranged objects (Relation src tgt rho) f = tt
relation_ranged objects (Dims dims maps) f = no_other (Dims dims maps) f

functor_ranged : (objects : ℕ) (lines : List BlockLine) (table : Bool) (lit : ObjTok) → AllFree (functor_marks objects lines table lit) → AreDims (dimensions lit)
functor_ranged objects lines table (Dim n) f = no_other (Dim n) f
functor_ranged objects lines table (Parts names) f = tt
functor_ranged objects lines table (Relation src tgt rho) f = tt
functor_ranged objects lines table (Dims dims maps) f =
    dims_ranged objects 0 dims (free_front (marks.each (dim_item objects) dims) _ (free_front (dims_marks objects dims) (some_maps lines table maps) f).1)

object_ranged : (parts : List Part) (over : Over) (lit : ObjTok) → AllFree (object_marks parts over lit) → AreDims (dimensions lit)
object_ranged parts (Vec prime) lit f = dim_ranged lit f
object_ranged parts (Add t) lit f = parts_ranged (objects_of parts t) lit f
object_ranged parts (Freyd t) lit f = relation_ranged (objects_of parts t) lit f
object_ranged parts (Rep t) lit f = functor_ranged (length (objects_of parts t)) (lines_of parts t) (not (is_quiver parts t)) lit f

-- a category that is there is over something
over_there : (n : Item ObjTok MorTok) (name : List ℕ) → is_category name n ≡ true → over_in n ≡ None → ⊥
over_there (top.Block b) name h e = cc
over_there (top.Category n o) name h e = cc
over_there (top.Command c) name h e = cc

over_found : (p : Part) (ps : List Part) (name : List ℕ) (b : Bool) → is_category_named name p ≡ b → (list_any (is_category_named name) ps ≡ true → found over_in None (find (is_category_named name) ps) ≡ None → ⊥) → (b || list_any (is_category_named name) ps) ≡ true → found over_in None (cond b (Some p) (find (is_category_named name) ps)) ≡ None → ⊥
over_found p ps name true is rest h e = over_there p.node name is e
over_found p ps name false is rest h e = rest h e

pub over_known : (ps : List Part) (name : List ℕ) → has_category ps name ≡ true → over_of ps name ≡ None → ⊥
over_known [] name h e = cc
over_known (p ∷ ps) name h e = over_found p ps name (is_category_named name p) refl (over_known ps name) h e

literal_ranged : (parts : List Part) (o : Option Over) (lit : ObjTok) → (o ≡ None → ⊥) → AllFree (object_literal parts o lit) → AreDims (dimensions lit)
literal_ranged parts None lit known f = absurd (known refl)
literal_ranged parts (Some over) lit known f = object_ranged parts over lit f

pub known : (b : Bool) → not b ≡ false → b ≡ true
known true e = refl
known false e = absurd (cc)

pub command_sized : (s : Scope) (c : Command ObjTok MorTok) → AllFree (command_marks s c) → AreDims (command_dimensions c)
command_sized s (Register cat op weight) f = tt
command_sized s (Finalise cat) f = tt
command_sized s (Plan cat) f = tt
command_sized s (Object cat x lit) f =
    literal_ranged s.parts (over_of s.parts cat) lit (over_known s.parts cat (known (has_category s.parts cat) (untold (not (has_category s.parts cat)) Known f.1.0))) f.1.1.1.1
command_sized s (Src x of) f = tt
command_sized s (Tgt x of) f = tt
command_sized s (Let x cat src tgt lit) f = tt
command_sized s (Call x cat op args) f = tt

pub item_sized : (full : Bool) (parts : List Part) (values : List Value) (n : Item ObjTok MorTok) → AllFree (item_marks full parts values n) → AreDims (item_dimensions n)
item_sized full parts values (top.Block b) f = tt
item_sized full parts values (top.Category n o) f = tt
item_sized full parts values (top.Command c) f = command_sized (scope full parts (length values) values) c f
