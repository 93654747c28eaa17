-- The log of a run: the history of each category, a line an entry. Places, sessions and objects count from 0, as they do in the histories.
use Rattle.std.specs.Prelude.{ℕ, suc, true, false, List, [], ◌∷◌, ◌++◌, map, codes, zip, Option, Some, None}
use Rattle.std.specs.List.{flat_map, filter_map}
use Rattle.std.specs.Fmt.{decimal}
use Rattle.cap_names.specs.declared.identifiers.Handle.{Handle}
use Rattle.cap_names.specs.declared.literals.MorLit.{MorLit}
use Rattle.cap_grammar.specs.declared.tree.Item.{Item}
use Rattle.cap_grammar.specs.declared.tree.Item.TheVariants.{Block, Category, Command}
use Rattle.cap_checked.specs.declared.tree.CheckedObj.{CheckedObj}
use Rattle.cap_ops.specs.declared.arrows.Arrow.{Arrow}
use Rattle.cap_ops.specs.declared.keys.Arg.{Arg}
use Rattle.cap_ops.specs.declared.keys.Arg.TheVariants.{Obj, Mor, Num}
use Rattle.cap_ops.specs.declared.keys.Key.{Key}
use Rattle.cap_ops.specs.declared.keys.Value.{Value as Answer}
use Rattle.cap_ops.specs.declared.keys.Value.TheVariants.{One, Many, Truth, Nothing}
use Rattle.cap_ops.specs.declared.plans.Choice.{Choice}
use Rattle.cap_ops.specs.declared.plans.Choice.TheVariants.{Prim, Rule, Missing}
use Rattle.cap_data.specs.declared.data.ObjData.{ObjData}
use Rattle.cap_data.specs.declared.data.MorData.{MorData}
use Rattle.cap_history.specs.declared.entries.Event.{Event}
use Rattle.cap_history.specs.declared.entries.Event.TheVariants.{Register, Finalise, Declare, Ask, Put, PlanOf}
use Rattle.cap_history.specs.declared.entries.Reply.{Reply}
use Rattle.cap_history.specs.declared.entries.Reply.TheVariants.{Done, Final, Object, Hit, Miss, Kept, Found, PlanIs, AlreadyFinal, NotFinal, NotOffered, Twice, NameTaken}
use Rattle.cap_history.specs.declared.entries.Entry.{Entry}
use Rattle.cap_report.specs.declared.report.History.{History}
use Rattle.cap_report.specs.declared.report.Report.{Report}
use Rattle.cap_top_text.specs.Data.{joined, morphism_text}
use Rattle.cap_top_text.specs.Values.{operation_text}
use Rattle.cap_top_text.specs.Text.{Part}

-- an object: #h, where h is its handle
abbrev pub object_text : Handle → List ℕ
object_text h = codes "#" ++ decimal h.0

-- a morphism: its ends, and its data
abbrev pub arrow_text : Arrow MorData → List ℕ
arrow_text f = object_text f.src ++ codes " -> " ++ object_text f.tgt ++ codes " " ++ morphism_text f.value

-- a value: a morphism, several with bars between, a truth, or none
abbrev pub value_text : Answer MorData → List ℕ
value_text (One f) = arrow_text f
value_text (Many fs) = joined (codes " | ") (map arrow_text fs)
value_text (Truth true) = codes "true"
value_text (Truth false) = codes "false"
value_text Nothing = codes "none"

-- an argument: an object, a morphism in brackets, or a residue
abbrev pub argument_text : Arg MorData → List ℕ
argument_text (Obj h) = object_text h
argument_text (Mor f) = codes "(" ++ arrow_text f ++ codes ")"
argument_text (Num n) = decimal n

-- a key: its operation, and its arguments, each behind a blank
abbrev pub key_text : Key MorData → List ℕ
key_text key = operation_text key.op ++ flat_map (λ a. codes " " ++ argument_text a) key.args

-- what was asked of the category; of an object that is declared the name, and of a result that is put the key
abbrev pub event_text : Event ObjData MorData → List ℕ
event_text (Register op weight) = codes "register " ++ operation_text op ++ codes " " ++ decimal weight
event_text Finalise = codes "finalise"
event_text (Declare name object) = codes "declare " ++ name
event_text (Ask key) = codes "ask " ++ key_text key
event_text (Put key out) = codes "put " ++ key_text key
event_text PlanOf = codes "plan"

-- the operation that an event registers; no name where it registers none
abbrev pub registered_text : Event ObjData MorData → List ℕ
registered_text (Register op weight) = operation_text op
registered_text _ = []

-- what the plan does an operation by
abbrev pub choice_text : Choice → List ℕ
choice_text Prim = codes "prim"
choice_text (Rule r) = codes "rule " ++ decimal r.0
choice_text Missing = codes "missing"

-- what the category replied to an event; a refusal has the words that the run's text has for it
abbrev pub reply_text : Event ObjData MorData → Reply ObjData MorData → List ℕ
reply_text event Done = codes "done"
reply_text event (Final plan) = codes "final"
reply_text event (Object h) = object_text h
reply_text event (Hit t) = codes "hit " ++ value_text t.value
reply_text event (Miss c) = codes "miss " ++ choice_text c
reply_text event (Kept t) = codes "kept " ++ value_text t.value
reply_text event (Found t) = codes "found " ++ value_text t.value
reply_text event (PlanIs plan) = codes "plan"
reply_text event (AlreadyFinal at) = codes "AlreadyFinal " ++ decimal at
reply_text event NotFinal = codes "NotFinal"
reply_text event NotOffered = codes "NotOffered " ++ registered_text event
reply_text event (Twice weight) = codes "Twice " ++ decimal weight
reply_text event (NameTaken h object) = codes "NameTaken " ++ object_text h

-- the line of an entry: its place, its session, what was asked, and the reply
abbrev pub entry_line : ℕ → Entry ObjData MorData → List ℕ
entry_line place e = decimal place ++ codes " s" ++ decimal e.session.0 ++ codes " " ++ event_text e.event ++ codes " -> " ++ reply_text e.event e.reply ++ codes "\n"

-- entries in order, the first of them at this place
abbrev pub entries_text : ℕ → List (Entry ObjData MorData) → List ℕ
entries_text place [] = []
entries_text place (e ∷ es) = entry_line place e ++ entries_text (suc place) es

-- the history of the category with this name
abbrev pub history_text : List ℕ → List (Entry ObjData MorData) → List ℕ
history_text name entries = codes "log " ++ name ++ codes "\n" ++ entries_text 0 entries

-- the names of the categories of a prelude, in order
abbrev pub item_category : Item CheckedObj MorLit → Option (List ℕ)
item_category (Block b) = None
item_category (Category name over) = Some name
item_category (Command c) = None

abbrev pub category_names : List Part → List (List ℕ)
category_names prelude = filter_map (λ part. item_category part.node) prelude

-- histories under names, each in its order
abbrev pub histories_text : List (List ℕ × History ObjData MorData) → List ℕ
histories_text named = flat_map (λ x. history_text x.0 x.1.entries) named

-- the log: the first history under the first name, and so on; a name without a history has no lines, nor has a history without a name
abbrev pub log_text : List Part → Report ObjData MorData → List ℕ
log_text prelude report = histories_text (zip (category_names prelude) report.histories)
