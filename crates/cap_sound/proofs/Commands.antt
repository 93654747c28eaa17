-- The marks of commands and of the parts of the prelude fit their texts.
use Rattle.std.proofs.Common.{ℕ, List, [], ◌∷◌, length, Option, Some, None, Bool}
use Rattle.std.specs.Prelude.{slice_get}
use Rattle.cap_names.specs.declared.identifiers.OpId.{OpId}
use Rattle.cap_reading.specs.Languages.{◌·◌, each, maybe}
use Rattle.cap_grammar.specs.declared.symbol.Fixed.TheVariants as word
use Rattle.cap_grammar.specs.declared.tree.RefTok.{RefTok}
use Rattle.cap_grammar.specs.declared.tree.ArgTok.{ArgTok}
use Rattle.cap_grammar.specs.declared.tree.ArgTok.TheVariants as argument
use Rattle.cap_grammar.specs.declared.tree.ObjTok.{ObjTok}
use Rattle.cap_grammar.specs.declared.tree.MorTok.{MorTok}
use Rattle.cap_grammar.specs.declared.tree.Over.{Over}
use Rattle.cap_grammar.specs.declared.tree.Over.TheVariants.{Vec, Add, Freyd, Rep}
use Rattle.cap_grammar.specs.declared.tree.Command.{Command}
use Rattle.cap_grammar.specs.declared.tree.Command.TheVariants.{Register, Finalise, Plan, Object, Src, Tgt, Let, Call}
use Rattle.cap_grammar.specs.declared.tree.Item.{Item}
use Rattle.cap_grammar.specs.declared.tree.Item.TheVariants as top
use Rattle.cap_grammar.specs.Grammar.{fixed, name, number, ref, arg, object, morphism, over, command, part}
use Rattle.cap_ops.specs.declared.sorts.Sort.{Sort}
use Rattle.cap_ops.specs.Ends.{operation_arguments}
use Rattle.cap_block_faults.specs.Marks.{Mark, free, told}
use Rattle.cap_block_faults.specs.Marks as marks
use Rattle.cap_block_faults.specs.Names.{Part, over_of}
use Rattle.cap_faults.specs.declared.values.Value.{Value}
use Rattle.cap_faults.specs.Commands.{value_of, part_marks, ref_marks, object_ref, any_ref, ref_mark, arg_marks, arg_item, args_marks, object_literal, morphism_literal, weight_marks, Scope, scope, given_morphism, command_marks}
use Rattle.cap_faults.specs.Scripts.{over_mark, item_marks}
use Rattle.cap_sound.proofs.Fits.{Fits, item_one, number_one, none, one, ◌then◌, both, front, each_fits}
use Rattle.cap_sound.proofs.Literals.{int_fits, object_fits, morphism_fits}
use Rattle.cap_sound.proofs.Blocks.{block_fits}

part_fits : (v : Option Value) (p : Option ℕ) → Fits (part_marks v p) (maybe (λ n. fixed word.Dot · number n) p)
part_fits v None = none
part_fits v (Some n) = item_one then one number_one

ref_fits : (values : List Value) (mark : Option ℕ → Option Value → Mark) (r : RefTok) → Fits (ref_marks values mark r) (ref r)
ref_fits values mark r = item_one then part_fits (value_of values r.name) r.part

arg_fits : (values : List Value) (cat : List ℕ) (wanted : Option Sort) (a : ArgTok) → Fits (arg_marks values cat wanted a) (arg a)
arg_fits values cat wanted (argument.Ref r) = ref_fits values (ref_mark cat wanted) r
arg_fits values cat wanted (argument.Int i) = int_fits _ i

-- the end of the line has a mark, where arguments may lack
args_fits : (values : List Value) (cat : List ℕ) (op : ℕ) (args : List ArgTok) → Fits (args_marks values cat op args) (each arg args · fixed word.Newline)
args_fits values cat op args =
    both (marks.each (arg_item values cat op) args) _ (each_fits (arg_item values cat op) arg (λ i a. arg_fits values cat (slice_get (operation_arguments op) i) a) 0 args) (one item_one)

object_literal_fits : (parts : List Part) (o : Option Over) (lit : ObjTok) → Fits (object_literal parts o lit) (object lit · fixed word.Newline)
object_literal_fits parts None lit = none
object_literal_fits parts (Some o) lit = object_fits parts o lit

morphism_literal_fits : (parts : List Part) (o : Option Over) (lit : MorTok) → Fits (morphism_literal parts o lit) (morphism lit)
morphism_literal_fits parts None lit = none
morphism_literal_fits parts (Some o) lit = morphism_fits parts o lit

given_fits : (s : Scope) (cat : List ℕ) (src tgt : RefTok) (lit : MorTok) → Fits (given_morphism s cat src tgt lit) (name cat · ref src · fixed word.To · ref tgt · morphism lit · fixed word.Newline)
given_fits s cat src tgt lit =
    item_one then both (ref_marks s.values (object_ref cat) src) _ (ref_fits s.values (object_ref cat) src)
    (item_one then both (ref_marks s.values (object_ref cat) tgt) _ (ref_fits s.values (object_ref cat) tgt) (front (morphism_literal_fits s.parts (over_of s.parts cat) lit)))

weight_fits : (m n k : Mark) (cat : List ℕ) (op : OpId) (weight : Option ℕ) → Fits (m ∷ n ∷ k ∷ weight_marks weight) (command (Register cat op weight))
weight_fits m n k cat op None = item_one then item_one then item_one then none
weight_fits m n k cat op (Some w) = item_one then item_one then item_one then front (one number_one)

pub command_fits : (s : Scope) (c : Command ObjTok MorTok) → Fits (command_marks s c) (command c)
command_fits s (Register cat op weight) = weight_fits _ _ _ cat op weight
command_fits s (Finalise cat) = item_one then item_one then none
command_fits s (Plan cat) = item_one then item_one then none
command_fits s (Object cat x lit) = item_one then item_one then item_one then item_one then object_literal_fits s.parts (over_of s.parts cat) lit
command_fits s (Src x of) = item_one then item_one then item_one then item_one then front (ref_fits s.values any_ref of)
command_fits s (Tgt x of) = item_one then item_one then item_one then item_one then front (ref_fits s.values any_ref of)
command_fits s (Let x cat src tgt lit) = item_one then item_one then item_one then given_fits s cat src tgt lit
command_fits s (Call x cat op args) = item_one then item_one then item_one then item_one then item_one then args_fits s.values cat op.0 args

-- what a category is over, and the end of its line
over_fits : (m : Mark) (parts : List Part) (o : Over) → Fits (m ∷ over_mark parts o ∷ []) (over o · fixed word.Newline)
over_fits m parts (Vec prime) = front (item_one then one number_one)
over_fits m parts (Add table) = front (item_one then one item_one)
over_fits m parts (Freyd table) = front (item_one then one item_one)
over_fits m parts (Rep table) = front (item_one then one item_one)

pub item_fits : (full : Bool) (parts : List Part) (values : List Value) (n : Item ObjTok MorTok) → Fits (item_marks full parts values n) (part n)
item_fits full parts values (top.Block b) = block_fits _ parts b
item_fits full parts values (top.Category n o) = item_one then item_one then over_fits _ parts o
item_fits full parts values (top.Command c) = command_fits (scope full parts (length values) values) c
