-- What is wrong in a command, and what it binds (this project's own script language).
-- The marks go as far as the meaning of the command is known: an unknown category ends them, and the end of the line stands there only where it may be wrong.
use Rattle.std.specs.Prelude.{ℕ, List, [], ◌∷◌, ◌++◌, length, Bool, true, false, ◌&&◌, ◌||◌, not, Option, Some, None, is_some, option_map, option_to_list, slice_get, find, nat_le}
use Rattle.std.specs.List.{list_any}
use Rattle.cap_names.specs.declared.reasons.Reason.TheVariants.{Known, Taken, Sort as SortReason, Limit}
use Rattle.cap_grammar.specs.declared.tree.RefTok.{RefTok}
use Rattle.cap_grammar.specs.declared.tree.ArgTok.{ArgTok}
use Rattle.cap_grammar.specs.declared.tree.ArgTok.TheVariants as argument
use Rattle.cap_grammar.specs.declared.tree.ObjTok.{ObjTok}
use Rattle.cap_grammar.specs.declared.tree.MorTok.{MorTok}
use Rattle.cap_grammar.specs.declared.tree.Over.{Over}
use Rattle.cap_grammar.specs.declared.tree.Command.{Command}
use Rattle.cap_grammar.specs.declared.tree.Command.TheVariants.{Register, Finalise, Plan, Object, Src, Tgt, Let, Call}
use Rattle.cap_ops.specs.declared.sorts.Sort.{Sort}
use Rattle.cap_ops.specs.declared.sorts.Sort.TheVariants.{Obj, Mor, Num, Truth, Tuple}
use Rattle.cap_ops.specs.Ends.{operation_arguments, operation_answer}
use Rattle.cap_block_faults.specs.Marks.{Mark, free, told, ◌or_else◌, each}
use Rattle.cap_block_faults.specs.Names.{Part, same, has_category, over_of}
use Rattle.cap_block_faults.specs.Blocks.{int_marks}
use Rattle.cap_block_faults.specs.Literals.{object_marks, morphism_marks}
use Rattle.cap_faults.specs.declared.values.Value.{Value}

-- the value of this name
abbrev pub is_value : List ℕ → Value → Bool
is_value name v = same v.name name

abbrev pub value_of : List Value → List ℕ → Option Value
value_of values name = find (is_value name) values

-- a name to be bound, where so many are bound in this scope already
abbrev pub new_name : ℕ → List Value → List ℕ → Mark
new_name own values name = told (nat_le 512 own) Limit or_else told (list_any (is_value name) values) Taken

-- sorts
abbrev pub is_object : Sort → Bool
is_object Obj = true
is_object Mor = false
is_object Num = false
is_object Truth = false
is_object (Tuple n) = false

abbrev pub is_morphism : Sort → Bool
is_morphism Obj = false
is_morphism Mor = true
is_morphism Num = false
is_morphism Truth = false
is_morphism (Tuple n) = false

-- a tuple has its parts from 1 on
abbrev pub has_part : Sort → ℕ → Bool
has_part Obj i = false
has_part Mor i = false
has_part Num i = false
has_part Truth i = false
has_part (Tuple n) i = nat_le 1 i && nat_le i n

-- a reference's name: it is to be bound, and to an object or a morphism of the category. A part is a morphism, where it is there
abbrev pub object_ref : List ℕ → Option ℕ → Option Value → Mark
object_ref cat part None = Some Known
object_ref cat part (Some v) = told (not (same v.cat cat && is_object v.sort && not (is_some part))) SortReason

abbrev pub morphism_ref : List ℕ → Option ℕ → Option Value → Mark
morphism_ref cat part None = Some Known
morphism_ref cat part (Some v) = told (not (same v.cat cat && (is_some part || is_morphism v.sort))) SortReason

-- to a morphism of any category
abbrev pub any_ref : Option ℕ → Option Value → Mark
any_ref part None = Some Known
any_ref part (Some v) = told (not (is_some part || is_morphism v.sort)) SortReason

-- where no reference may stand
abbrev pub no_ref : Option Value → Mark
no_ref None = Some Known
no_ref (Some v) = Some SortReason

-- a part that is to be there
abbrev pub part_mark : Option Value → ℕ → Mark
part_mark None i = free
part_mark (Some v) i = told (not (has_part v.sort i)) SortReason

abbrev pub part_marks : Option Value → Option ℕ → List Mark
part_marks value None = []
part_marks value (Some i) = free ∷ part_mark value i ∷ []

-- a reference, whose name has the mark
abbrev pub ref_marks : List Value → (Option ℕ → Option Value → Mark) → RefTok → List Mark
ref_marks values mark r = mark r.part (value_of values r.name) ∷ part_marks (value_of values r.name) r.part

-- an argument where a value of this sort, or none, is wanted: an object and a morphism are references, and a scalar is an integer
abbrev pub ref_mark : List ℕ → Option Sort → Option ℕ → Option Value → Mark
ref_mark cat None part value = no_ref value
ref_mark cat (Some Obj) part value = object_ref cat part value
ref_mark cat (Some Mor) part value = morphism_ref cat part value
ref_mark cat (Some Num) part value = no_ref value
ref_mark cat (Some Truth) part value = no_ref value
ref_mark cat (Some (Tuple n)) part value = no_ref value

abbrev pub is_scalar : Option Sort → Bool
is_scalar None = false
is_scalar (Some Obj) = false
is_scalar (Some Mor) = false
is_scalar (Some Num) = true
is_scalar (Some Truth) = false
is_scalar (Some (Tuple n)) = false

abbrev pub arg_marks : List Value → List ℕ → Option Sort → ArgTok → List Mark
arg_marks values cat wanted (argument.Ref r) = ref_marks values (ref_mark cat wanted) r
arg_marks values cat wanted (argument.Int i) = int_marks (told (not (is_scalar wanted)) SortReason) i

-- the arguments of an operation. Where there are too few, the end of the line is wrong
abbrev pub arg_item : List Value → List ℕ → ℕ → ℕ → ArgTok → List Mark
arg_item values cat op i a = arg_marks values cat (slice_get (operation_arguments op) i) a

abbrev pub args_marks : List Value → List ℕ → ℕ → List ArgTok → List Mark
args_marks values cat op args = each (arg_item values cat op) args ++ told (is_some (slice_get (operation_arguments op) (length args))) SortReason ∷ []

-- a category that is to be there, and a literal in it
abbrev pub category_mark : List Part → List ℕ → Mark
category_mark parts cat = told (not (has_category parts cat)) Known

abbrev pub object_literal : List Part → Option Over → ObjTok → List Mark
object_literal parts None lit = []
object_literal parts (Some over) lit = object_marks parts over lit

abbrev pub morphism_literal : List Part → Option Over → MorTok → List Mark
morphism_literal parts None lit = []
morphism_literal parts (Some over) lit = morphism_marks parts over lit

-- a weight: 1 to 1,000,000
abbrev pub weight_marks : Option ℕ → List Mark
weight_marks None = []
weight_marks (Some w) = told (not (nat_le 1 w && nat_le w 1000000)) Limit ∷ []

-- where a command stands: whether it is one too many, the parts before it, how many names its scope has bound, and the values that are bound
pub record Scope : Type 0 where
  pub full : Bool
  pub parts : List Part
  pub own : ℕ
  pub values : List Value

abbrev pub scope : Bool → List Part → ℕ → List Value → Scope
scope full parts own values = record { full = full; parts = parts; own = own; values = values }

abbrev pub binding : Scope → List ℕ → List Mark
binding s name = told s.full Limit ∷ new_name s.own s.values name ∷ free ∷ []

abbrev pub given_morphism : Scope → List ℕ → RefTok → RefTok → MorTok → List Mark
given_morphism s cat src tgt lit =
    category_mark s.parts cat ∷ (ref_marks s.values (object_ref cat) src
    ++ (free ∷ (ref_marks s.values (object_ref cat) tgt ++ morphism_literal s.parts (over_of s.parts cat) lit)))

abbrev pub given_object : Scope → List ℕ → List ℕ → ObjTok → List Mark
given_object s cat x lit =
    told s.full Limit ∷ category_mark s.parts cat ∷ new_name s.own s.values x ∷ free ∷ object_literal s.parts (over_of s.parts cat) lit

abbrev pub end_marks : Scope → List ℕ → RefTok → List Mark
end_marks s x of = binding s x ++ (free ∷ ref_marks s.values any_ref of)

abbrev pub given_call : Scope → List ℕ → ℕ → List ArgTok → List Mark
given_call s cat op args = category_mark s.parts cat ∷ free ∷ args_marks s.values cat op args

abbrev pub command_marks : Scope → Command ObjTok MorTok → List Mark
command_marks s (Register cat op weight) = told s.full Limit ∷ category_mark s.parts cat ∷ free ∷ weight_marks weight
command_marks s (Finalise cat) = told s.full Limit ∷ category_mark s.parts cat ∷ []
command_marks s (Plan cat) = told s.full Limit ∷ category_mark s.parts cat ∷ []
command_marks s (Object cat x lit) = given_object s cat x lit
command_marks s (Src x of) = end_marks s x of
command_marks s (Tgt x of) = end_marks s x of
command_marks s (Let x cat src tgt lit) = binding s x ++ given_morphism s cat src tgt lit
command_marks s (Call x cat op args) = binding s x ++ given_call s cat op.0 args

-- what a command binds: the source and the target of a morphism are of its category
abbrev pub value : List ℕ → List ℕ → Sort → Value
value name cat sort = record { name = name; cat = cat; sort = sort }

abbrev pub end_of : List ℕ → Value → Value
end_of name v = value name v.cat Obj

abbrev pub bound_by : List Value → Command ObjTok MorTok → List Value
bound_by values (Register cat op weight) = []
bound_by values (Finalise cat) = []
bound_by values (Plan cat) = []
bound_by values (Object cat x lit) = value x cat Obj ∷ []
bound_by values (Src x of) = option_to_list (option_map (end_of x) (value_of values of.name))
bound_by values (Tgt x of) = option_to_list (option_map (end_of x) (value_of values of.name))
bound_by values (Let x cat src tgt lit) = value x cat Mor ∷ []
bound_by values (Call x cat op args) = value x cat (operation_answer op.0) ∷ []
