-- Commands are read as the grammar says.
use Rattle.std.proofs.Common.{◌≡◌, ℕ, List, ◌++◌, Bool, false, refl, sym, subst, inl, inr}
use Rattle.std.specs.Prelude.{◌⊎◌, Option}
use Rattle.cap_names.specs.declared.identifiers.OpId.{OpId}
use Rattle.cap_reading.specs.Languages.{◌·◌, made, maybe, each}
use Rattle.cap_reading.proofs.Law.{Law, Leads, Apart, Starts, Stops, never, one_of, law_as, apart_sym, starts_apart, starts_more}
use Rattle.cap_reading.proofs.Items.{law_mapped}
use Rattle.cap_reading.proofs.Sequences.{law_then, law_both, leads_first, leads_apart}
use Rattle.cap_reading.proofs.Choices.{law_optional, law_either, from_or, from_made, leads_made, leads_or, apart_or}
use Rattle.cap_reading.proofs.Repetitions.{law_many}
use Rattle.cap_grammar.specs.declared.symbol.Fixed.{Fixed}
use Rattle.cap_grammar.specs.declared.symbol.Fixed.TheVariants as word
use Rattle.cap_grammar.specs.declared.symbol.Symbol.{Symbol}
use Rattle.cap_grammar.specs.declared.symbol.Symbol.TheVariants as symbol
use Rattle.cap_grammar.specs.declared.tree.RefTok.{RefTok}
use Rattle.cap_grammar.specs.declared.tree.ArgTok.{ArgTok}
use Rattle.cap_grammar.specs.declared.tree.ObjTok.{ObjTok}
use Rattle.cap_grammar.specs.declared.tree.MorTok.{MorTok}
use Rattle.cap_grammar.specs.declared.tree.MorTok.TheVariants as matrices
use Rattle.cap_grammar.specs.declared.tree.Command.{Command}
use Rattle.cap_grammar.specs.declared.tree.Command.TheVariants.{Register, Finalise, Plan, Object, Src, Tgt, Let, Call}
use Rattle.cap_grammar.specs.Grammar.{fixed, name, operation, number, ref, arg, object, morphism, command}
use Rattle.cap_literals.specs.Reading.{is, is_name, is_number, starts_arg}
use Rattle.cap_literals.proofs.Symbols.{apart, law_behind, law_up_to, leads_fixed, law_never, fixed_begins}
use Rattle.cap_literals.proofs.Laws.{law_name, law_operation, law_number, law_ref, law_arg, law_object, law_morphism, number_begins, ref_begins, arg_begins, name_begins}
use Rattle.cap_parser.specs.declared.lets.Value.{Value}
use Rattle.cap_parser.specs.declared.lets.Value.TheVariants as value
use Rattle.cap_parser.specs.declared.lets.Bound.{Bound}
use Rattle.cap_parser.specs.declared.lets.Bound.TheVariants as bound
use Rattle.cap_parser.specs.Commands.{is_operation, starts_command, new_register, register_at, finalise_at, plan_at, new_object, object_command_at, args_at, new_call, call_at, new_literal, literal_at, value_at, src_at, tgt_at, new_inside, inside_at, bound_at, new_let, let_at, command_at}

-- a word is no name
pub name_apart : (w : Fixed) → Apart is_name (is w)
name_apart w = apart_sym (apart w is_name refl)

abbrev register_text : List ℕ × (OpId × Option ℕ) → List Symbol → Type 0
register_text x = fixed word.Register · name x.0 · operation x.1.0 · maybe number x.1.1 · fixed word.Newline

law_register : Law register_at (made new_register register_text) never
unfolding register_at
law_register = law_mapped new_register (law_behind word.Register (law_then law_name (law_then law_operation (law_up_to word.Newline refl (law_optional is_number law_number number_begins)))))

abbrev finalise_text : List ℕ → List Symbol → Type 0
finalise_text n = fixed word.Finalise · name n · fixed word.Newline

law_finalise : Law finalise_at (made Finalise finalise_text) never
unfolding finalise_at
law_finalise = law_mapped Finalise (law_behind word.Finalise (law_up_to word.Newline refl law_name))

abbrev plan_text : List ℕ → List Symbol → Type 0
plan_text n = fixed word.Plan · name n · fixed word.Newline

law_plan : Law plan_at (made Plan plan_text) never
unfolding plan_at
law_plan = law_mapped Plan (law_behind word.Plan (law_up_to word.Newline refl law_name))

abbrev object_text : List ℕ × (List ℕ × ObjTok) → List Symbol → Type 0
object_text x = fixed word.Object · name x.0 · name x.1.0 · fixed word.Equals · object x.1.1 · fixed word.Newline

law_object_command : Law object_command_at (made new_object object_text) never
unfolding object_command_at
law_object_command = law_mapped new_object (law_behind word.Object (law_then law_name (law_then law_name (law_behind word.Equals (law_up_to word.Newline refl law_object)))))

-- OP { ref | int } LF, or ref "->" ref morlit LF
law_args : Law args_at (each arg) (one_of starts_arg (is word.Dot))
unfolding args_at
law_args = law_many starts_arg law_arg arg_begins (apart_sym (apart word.Dot starts_arg refl))

abbrev call_text : OpId × List ArgTok → List Symbol → Type 0
call_text x = operation x.0 · each arg x.1 · fixed word.Newline

law_call : Law call_at (made new_call call_text) never
unfolding call_at
law_call = law_mapped new_call (law_then law_operation (law_up_to word.Newline refl law_args))

abbrev to_text : RefTok × MorTok → List Symbol → Type 0
to_text y = fixed word.To · ref y.0 · morphism y.1 · fixed word.Newline

abbrev literal_text : RefTok × (RefTok × MorTok) → List Symbol → Type 0
literal_text x = ref x.0 · to_text x.1

abbrev last_text : RefTok × MorTok → List Symbol → Type 0
last_text y = ref y.0 · morphism y.1 · fixed word.Newline

after_morphism : (m : MorTok) (l k rest : List Symbol) → morphism m l → Stops (is word.Dot) (l ++ k ++ rest)
after_morphism (matrices.Rows m) l k rest h = starts_apart (is word.Open) (is word.Dot) (apart word.Open (is word.Dot) refl) (l ++ k ++ rest) (starts_more (is word.Open) (l ++ k) rest (starts_more (is word.Open) l k (fixed_begins word.Open _ l h)))
after_morphism (matrices.Parts ms) l k rest h = starts_apart (is word.OpenBrace) (is word.Dot) (apart word.OpenBrace (is word.Dot) refl) (l ++ k ++ rest) (starts_more (is word.OpenBrace) (l ++ k) rest (starts_more (is word.OpenBrace) l k (fixed_begins word.OpenBrace _ l h)))

morphism_apart : (m : MorTok) (l rest : List Symbol) → (morphism m · fixed word.Newline) l → Stops never rest → Stops (is word.Dot) (l ++ rest)
morphism_apart m l rest h st = subst (λ l. Stops (is word.Dot) (l ++ rest)) (sym h.split) (after_morphism m h.front h.rest rest h.first)

law_literal : Law literal_at (made new_literal literal_text) never
unfolding literal_at
law_literal =
    law_mapped new_literal
    (law_both law_ref
    (law_behind word.To (law_both law_ref (law_up_to word.Newline refl law_morphism) morphism_apart))
    (λ b l rest h st. leads_apart (is word.To) (is word.Dot) to_text (apart word.To (is word.Dot) refl) (leads_fixed word.To last_text) b l rest h))

abbrev value_text : Value → List Symbol → Type 0
value_text (value.Call op args) = call_text (op, args)
value_text (value.Literal src tgt lit) = literal_text (src, (tgt, lit))

operation_begins : Leads is_operation operation
operation_begins op l h = subst (Starts is_operation) (sym h) refl

operations_apart : Apart is_name is_operation
operations_apart (symbol.Fixed w) h = refl
operations_apart (symbol.Operation op) h = cc
operations_apart (symbol.Name n) h = refl
operations_apart (symbol.Number n) h = refl
operations_apart symbol.Nought h = refl

from_value : (v : Value) (l : List Symbol) → value_text v l → made new_call call_text v l ⊎ made new_literal literal_text v l
from_value (value.Call op args) l h = inl ((op, args), refl, h)
from_value (value.Literal src tgt lit) l h = inr ((src, (tgt, lit)), refl, h)

law_value : Law value_at value_text never
unfolding value_at
law_value =
    law_never (law_as value_text (from_or value_text (from_made value_text (λ x l h. h)) (from_made value_text (λ x l h. h))) from_value
    (law_either is_operation law_call law_literal is_name
    (leads_made is_operation new_call call_text (leads_first is_operation operation (λ args. each arg args · fixed word.Newline) operation_begins))
    (leads_made is_name new_literal literal_text (leads_first is_name ref to_text ref_begins))
    operations_apart))

-- what is behind "let" NAME "="
abbrev src_text : RefTok → List Symbol → Type 0
src_text r = fixed word.Src · ref r · fixed word.Newline

law_src : Law src_at (made bound.Src src_text) never
unfolding src_at
law_src = law_mapped bound.Src (law_behind word.Src (law_up_to word.Newline refl law_ref))

abbrev tgt_text : RefTok → List Symbol → Type 0
tgt_text r = fixed word.Tgt · ref r · fixed word.Newline

law_tgt : Law tgt_at (made bound.Tgt tgt_text) never
unfolding tgt_at
law_tgt = law_mapped bound.Tgt (law_behind word.Tgt (law_up_to word.Newline refl law_ref))

abbrev inside_text : List ℕ × Value → List Symbol → Type 0
inside_text x = name x.0 · value_text x.1

law_inside : Law inside_at (made new_inside inside_text) never
unfolding inside_at
law_inside = law_mapped new_inside (law_then law_name law_value)

abbrev bound_text : Bound → List Symbol → Type 0
bound_text (bound.Src of) = src_text of
bound_text (bound.Tgt of) = tgt_text of
bound_text (bound.In cat v) = inside_text (cat, v)

from_bound : (b : Bound) (l : List Symbol) → bound_text b l → made bound.Src src_text b l ⊎ (made bound.Tgt tgt_text b l ⊎ made new_inside inside_text b l)
from_bound (bound.Src of) l h = inl (of, refl, h)
from_bound (bound.Tgt of) l h = inr (inl (of, refl, h))
from_bound (bound.In cat v) l h = inr (inr ((cat, v), refl, h))

tgt_begins : Leads (is word.Tgt) (made bound.Tgt tgt_text)
tgt_begins = leads_made (is word.Tgt) bound.Tgt tgt_text (leads_fixed word.Tgt (λ r. ref r · fixed word.Newline))

inside_begins : Leads is_name (made new_inside inside_text)
inside_begins = leads_made is_name new_inside inside_text (leads_first is_name name value_text name_begins)

law_bound : Law bound_at bound_text never
unfolding bound_at
law_bound =
    law_never (law_as bound_text (from_or bound_text (from_made bound_text (λ x l h. h)) (from_or bound_text (from_made bound_text (λ x l h. h)) (from_made bound_text (λ x l h. h)))) from_bound
    (law_either (is word.Src) law_src
    (law_never (law_either (is word.Tgt) law_tgt law_inside is_name tgt_begins inside_begins (name_apart word.Tgt)))
    (one_of (is word.Tgt) is_name)
    (leads_made (is word.Src) bound.Src src_text (leads_fixed word.Src (λ r. ref r · fixed word.Newline)))
    (leads_or (is word.Tgt) is_name (made bound.Tgt tgt_text) (made new_inside inside_text) tgt_begins inside_begins)
    (apart_or (is word.Tgt) is_name (is word.Src) (apart word.Tgt (is word.Src) refl) (name_apart word.Src))))

abbrev let_text : List ℕ × Bound → List Symbol → Type 0
let_text x = fixed word.Let · name x.0 · fixed word.Equals · bound_text x.1

law_let : Law let_at (made new_let let_text) never
unfolding let_at
law_let = law_mapped new_let (law_behind word.Let (law_then law_name (law_behind word.Equals law_bound)))

let_to : (x : List ℕ) (b : Bound) (l : List Symbol) → let_text (x, b) l → command (new_let (x, b)) l
let_to x (bound.Src of) l h = h
let_to x (bound.Tgt of) l h = h
let_to x (bound.In cat (value.Call op args)) l h = h
let_to x (bound.In cat (value.Literal src tgt lit)) l h = h

-- command
abbrev of_object : Command ObjTok MorTok → List Symbol → Type 0
of_object c l = made new_object object_text c l ⊎ made new_let let_text c l

abbrev of_plan : Command ObjTok MorTok → List Symbol → Type 0
of_plan c l = made Plan plan_text c l ⊎ of_object c l

abbrev of_finalise : Command ObjTok MorTok → List Symbol → Type 0
of_finalise c l = made Finalise finalise_text c l ⊎ of_plan c l

abbrev of_register : Command ObjTok MorTok → List Symbol → Type 0
of_register c l = made new_register register_text c l ⊎ of_finalise c l

from_command : (c : Command ObjTok MorTok) (l : List Symbol) → command c l → of_register c l
from_command (Register cat op weight) l h = inl ((cat, (op, weight)), refl, h)
from_command (Finalise cat) l h = inr (inl (cat, refl, h))
from_command (Plan cat) l h = inr (inr (inl (cat, refl, h)))
from_command (Object cat x lit) l h = inr (inr (inr (inl ((cat, (x, lit)), refl, h))))
from_command (Src x of) l h = inr (inr (inr (inr ((x, bound.Src of), refl, h))))
from_command (Tgt x of) l h = inr (inr (inr (inr ((x, bound.Tgt of), refl, h))))
from_command (Let x cat src tgt lit) l h = inr (inr (inr (inr ((x, bound.In cat (value.Literal src tgt lit)), refl, h))))
from_command (Call x cat op args) l h = inr (inr (inr (inr ((x, bound.In cat (value.Call op args)), refl, h))))

to_command : (c : Command ObjTok MorTok) (l : List Symbol) → of_register c l → command c l
to_command =
    from_or command (from_made command (λ x l h. h))
    (from_or command (from_made command (λ x l h. h))
    (from_or command (from_made command (λ x l h. h))
    (from_or command (from_made command (λ x l h. h)) (from_made command (λ x l h. let_to x.0 x.1 l h)))))

register_begins : Leads (is word.Register) (made new_register register_text)
register_begins = leads_made (is word.Register) new_register register_text (leads_fixed word.Register (λ x. name x.0 · operation x.1.0 · maybe number x.1.1 · fixed word.Newline))

finalise_begins : Leads {A = Command ObjTok MorTok} (is word.Finalise) (made Finalise finalise_text)
finalise_begins = leads_made (is word.Finalise) Finalise finalise_text (leads_fixed word.Finalise (λ n. name n · fixed word.Newline))

plan_begins : Leads {A = Command ObjTok MorTok} (is word.Plan) (made Plan plan_text)
plan_begins = leads_made (is word.Plan) Plan plan_text (leads_fixed word.Plan (λ n. name n · fixed word.Newline))

object_begins : Leads (is word.Object) (made new_object object_text)
object_begins = leads_made (is word.Object) new_object object_text (leads_fixed word.Object (λ x. name x.0 · name x.1.0 · fixed word.Equals · object x.1.1 · fixed word.Newline))

let_begins : Leads (is word.Let) (made new_let let_text)
let_begins = leads_made (is word.Let) new_let let_text (leads_fixed word.Let (λ x. name x.0 · fixed word.Equals · bound_text x.1))

abbrev object_or : Symbol → Bool
object_or = one_of (is word.Object) (is word.Let)

abbrev plan_or : Symbol → Bool
plan_or = one_of (is word.Plan) object_or

abbrev finalise_or : Symbol → Bool
finalise_or = one_of (is word.Finalise) plan_or

object_or_begins : Leads object_or of_object
object_or_begins = leads_or (is word.Object) (is word.Let) (made new_object object_text) (made new_let let_text) object_begins let_begins

plan_or_begins : Leads plan_or of_plan
plan_or_begins = leads_or (is word.Plan) object_or (made Plan plan_text) of_object plan_begins object_or_begins

finalise_or_begins : Leads finalise_or of_finalise
finalise_or_begins = leads_or (is word.Finalise) plan_or (made Finalise finalise_text) of_plan finalise_begins plan_or_begins

object_or_apart : (w : Fixed) → is w (symbol.Fixed word.Object) ≡ false → is w (symbol.Fixed word.Let) ≡ false → Apart object_or (is w)
object_or_apart w o t = apart_or (is word.Object) (is word.Let) (is w) (apart word.Object (is w) o) (apart word.Let (is w) t)

plan_or_apart : (w : Fixed) → is w (symbol.Fixed word.Plan) ≡ false → Apart object_or (is w) → Apart plan_or (is w)
plan_or_apart w p others = apart_or (is word.Plan) object_or (is w) (apart word.Plan (is w) p) others

finalise_or_apart : Apart finalise_or (is word.Register)
finalise_or_apart = apart_or (is word.Finalise) plan_or (is word.Register) (apart word.Finalise (is word.Register) refl) (plan_or_apart word.Register refl (object_or_apart word.Register refl refl))

pub law_command : Law command_at command never
unfolding command_at
law_command =
    law_never (law_as command to_command from_command
    (law_either (is word.Register) law_register
    (law_never (law_either (is word.Finalise) law_finalise
    (law_never (law_either (is word.Plan) law_plan
    (law_never (law_either (is word.Object) law_object_command law_let (is word.Let) object_begins let_begins (apart word.Let (is word.Object) refl)))
    object_or plan_begins object_or_begins (object_or_apart word.Plan refl refl)))
    plan_or finalise_begins plan_or_begins (plan_or_apart word.Finalise refl (object_or_apart word.Finalise refl refl))))
    finalise_or register_begins finalise_or_begins finalise_or_apart))

pub command_begins : Leads starts_command command
command_begins c l h = leads_or (is word.Register) finalise_or (made new_register register_text) of_finalise register_begins finalise_or_begins c l (from_command c l h)
