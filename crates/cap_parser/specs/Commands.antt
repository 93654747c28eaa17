-- Reading commands from left to right: a step for each production.
use Rattle.std.specs.Prelude.{ℕ, List, Bool, true, false, Option, if◌then◌else◌}
use Rattle.cap_names.specs.declared.identifiers.OpId.{OpId}
use Rattle.cap_reading.specs.Steps.{Read, mapped, skip, before, both, either, optional, many}
use Rattle.cap_grammar.specs.declared.symbol.Fixed.TheVariants as word
use Rattle.cap_grammar.specs.declared.symbol.Symbol.{Symbol}
use Rattle.cap_grammar.specs.declared.symbol.Symbol.TheVariants as symbol
use Rattle.cap_grammar.specs.declared.tree.RefTok.{RefTok}
use Rattle.cap_grammar.specs.declared.tree.ArgTok.{ArgTok}
use Rattle.cap_grammar.specs.declared.tree.ObjTok.{ObjTok}
use Rattle.cap_grammar.specs.declared.tree.MorTok.{MorTok}
use Rattle.cap_grammar.specs.declared.tree.Command.{Command}
use Rattle.cap_grammar.specs.declared.tree.Command.TheVariants.{Register, Finalise, Plan, Object, Src, Tgt, Let, Call}
use Rattle.cap_literals.specs.Reading.{is, is_number, starts_arg, name_at, operation_at, number_at, ref_at, arg_at, object_at, morphism_at}
use Rattle.cap_parser.specs.declared.lets.Value.{Value}
use Rattle.cap_parser.specs.declared.lets.Value.TheVariants as value
use Rattle.cap_parser.specs.declared.lets.Bound.{Bound}
use Rattle.cap_parser.specs.declared.lets.Bound.TheVariants as bound

abbrev pub is_operation : Symbol → Bool
is_operation (symbol.Fixed w) = false
is_operation (symbol.Operation op) = true
is_operation (symbol.Name n) = false
is_operation (symbol.Number n) = false
is_operation symbol.Nought = false

-- what begins a command
abbrev pub starts_command : Symbol → Bool
starts_command t = if is word.Register t then true else (if is word.Finalise t then true else (if is word.Plan t then true else (if is word.Object t then true else is word.Let t)))

-- "register" NAME OP [NUM] LF
abbrev pub new_register : List ℕ × (OpId × Option ℕ) → Command ObjTok MorTok
new_register x = Register x.0 x.1.0 x.1.1

unfoldable pub register_at : List Symbol → Read Symbol (Command ObjTok MorTok)
register_at ts = mapped new_register (skip (is word.Register) (both name_at (both operation_at (before (optional is_number number_at) (is word.Newline))))) ts

-- "finalise" NAME LF
unfoldable pub finalise_at : List Symbol → Read Symbol (Command ObjTok MorTok)
finalise_at ts = mapped Finalise (skip (is word.Finalise) (before name_at (is word.Newline))) ts

-- "plan" NAME LF
unfoldable pub plan_at : List Symbol → Read Symbol (Command ObjTok MorTok)
plan_at ts = mapped Plan (skip (is word.Plan) (before name_at (is word.Newline))) ts

-- "object" NAME NAME "=" objlit LF
abbrev pub new_object : List ℕ × (List ℕ × ObjTok) → Command ObjTok MorTok
new_object x = Object x.0 x.1.0 x.1.1

unfoldable pub object_command_at : List Symbol → Read Symbol (Command ObjTok MorTok)
object_command_at ts = mapped new_object (skip (is word.Object) (both name_at (both name_at (skip (is word.Equals) (before object_at (is word.Newline)))))) ts

-- behind "let" NAME "=" NAME: OP { ref | int } LF, or ref "->" ref morlit LF
unfoldable pub args_at : List Symbol → Read Symbol (List ArgTok)
args_at ts = many starts_arg arg_at ts

abbrev pub new_call : OpId × List ArgTok → Value
new_call x = value.Call x.0 x.1

unfoldable pub call_at : List Symbol → Read Symbol Value
call_at ts = mapped new_call (both operation_at (before args_at (is word.Newline))) ts

abbrev pub new_literal : RefTok × (RefTok × MorTok) → Value
new_literal x = value.Literal x.0 x.1.0 x.1.1

unfoldable pub literal_at : List Symbol → Read Symbol Value
literal_at ts = mapped new_literal (both ref_at (skip (is word.To) (both ref_at (before morphism_at (is word.Newline))))) ts

unfoldable pub value_at : List Symbol → Read Symbol Value
value_at ts = either is_operation call_at literal_at ts

-- behind "let" NAME "=": "src" ref LF, "tgt" ref LF, or NAME and then a value
unfoldable pub src_at : List Symbol → Read Symbol Bound
src_at ts = mapped bound.Src (skip (is word.Src) (before ref_at (is word.Newline))) ts

unfoldable pub tgt_at : List Symbol → Read Symbol Bound
tgt_at ts = mapped bound.Tgt (skip (is word.Tgt) (before ref_at (is word.Newline))) ts

abbrev pub new_inside : List ℕ × Value → Bound
new_inside x = bound.In x.0 x.1

unfoldable pub inside_at : List Symbol → Read Symbol Bound
inside_at ts = mapped new_inside (both name_at value_at) ts

unfoldable pub bound_at : List Symbol → Read Symbol Bound
bound_at ts = either (is word.Src) src_at (either (is word.Tgt) tgt_at inside_at) ts

-- the command that binds the name to it
abbrev pub new_value : List ℕ → List ℕ → Value → Command ObjTok MorTok
new_value x cat (value.Call op args) = Call x cat op args
new_value x cat (value.Literal src tgt lit) = Let x cat src tgt lit

abbrev pub new_bound : List ℕ → Bound → Command ObjTok MorTok
new_bound x (bound.Src of) = Src x of
new_bound x (bound.Tgt of) = Tgt x of
new_bound x (bound.In cat v) = new_value x cat v

abbrev pub new_let : List ℕ × Bound → Command ObjTok MorTok
new_let x = new_bound x.0 x.1

unfoldable pub let_at : List Symbol → Read Symbol (Command ObjTok MorTok)
let_at ts = mapped new_let (skip (is word.Let) (both name_at (skip (is word.Equals) bound_at))) ts

unfoldable pub command_at : List Symbol → Read Symbol (Command ObjTok MorTok)
command_at ts = either (is word.Register) register_at (either (is word.Finalise) finalise_at (either (is word.Plan) plan_at (either (is word.Object) object_command_at let_at))) ts
