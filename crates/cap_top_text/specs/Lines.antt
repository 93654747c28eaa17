-- The lines of commands, and what stands behind each: the categories made, the categories of the names bound, and the objects that have appeared.
use Rattle.std.specs.Prelude.{ℕ, Bool, List, [], ◌∷◌, ◌++◌, codes, find, Option, Some, None, option_map, unwrap_or}
use Rattle.std.specs.List.{position_or_len}
use Rattle.std.specs.Fmt.{decimal}
use Rattle.cap_names.specs.declared.identifiers.Handle.{Handle}
use Rattle.cap_names.specs.declared.literals.MorLit.{MorLit}
use Rattle.cap_grammar.specs.declared.tree.Command.{Command}
use Rattle.cap_grammar.specs.declared.tree.Command.TheVariants.{Src, Tgt}
use Rattle.cap_grammar.specs.declared.tree.Item.{Item}
use Rattle.cap_grammar.specs.declared.tree.Item.TheVariants as top
use Rattle.cap_grammar.specs.declared.tree.Over.{Over}
use Rattle.cap_grammar.specs.declared.tree.Over.TheVariants.{Vec, Add, Freyd, Rep}
use Rattle.cap_block_faults.specs.Names.{same}
use Rattle.cap_checked.specs.declared.tree.CheckedObj.{CheckedObj}
use Rattle.cap_cert.specs.Texts.{cert_text, spelled_plan}
use Rattle.cap_ops.specs.declared.plans.Kind.{Kind}
use Rattle.cap_ops.specs.declared.plans.Kind.TheVariants as kinds
use Rattle.cap_ops.specs.declared.plans.Plan.{Plan}
use Rattle.cap_data.specs.declared.data.ObjData.{ObjData}
use Rattle.cap_data.specs.declared.data.MorData.{MorData}
use Rattle.cap_history.specs.declared.entries.Entry.{Entry}
use Rattle.cap_history.specs.Reading.{objects, weights}
use Rattle.cap_report.specs.declared.lines.LineAnswer.{LineAnswer}
use Rattle.cap_report.specs.declared.lines.LineAnswer.TheVariants as line
use Rattle.cap_report.specs.declared.report.History.{History}
use Rattle.cap_report.specs.Named.{category_name, bound_name}
use Rattle.cap_report.specs.Histories.{history_of}
use Rattle.cap_top_text.specs.declared.book.Book.{Book}
use Rattle.cap_top_text.specs.declared.book.Bound.{Bound}
use Rattle.cap_top_text.specs.declared.book.Made.{Made}
use Rattle.cap_top_text.specs.declared.home.Home.{Home}
use Rattle.cap_top_text.specs.Values.{operation_text, mentions, new_objects, seen_behind, refusal_text, value_text}

abbrev pub OfData : Type 0
OfData = Entry ObjData MorData

-- the category of this name: its number is how many were made before it
abbrev pub is_made : List ℕ → Made → Bool
is_made name m = same m.name name

abbrev pub home_of : List Made → List ℕ → Home
home_of made name = record { name = name; number = position_or_len (is_made name) made; over = option_map (λ m. m.over) (find (is_made name) made) }

-- the category of a value that is bound
abbrev pub is_bound : List ℕ → Bound → Bool
is_bound name b = same b.name name

abbrev pub bound_in : List Bound → List ℕ → Option (List ℕ)
bound_in bound name = option_map (λ b. b.category) (find (is_bound name) bound)

-- the name of a command's category: that which it names, and for a source or a target that of the morphism
abbrev pub home_name : List Bound → Command CheckedObj MorLit → Option (List ℕ)
home_name bound (Src x r) = bound_in bound r.name
home_name bound (Tgt x r) = bound_in bound r.name
home_name bound c = category_name c

-- what a refusal's line begins with: the name that would be bound, else that of the category
abbrev pub subject : Command CheckedObj MorLit → List ℕ → List ℕ
subject c home = unwrap_or (bound_name c) home

-- the kind of what a category is over
abbrev pub kind_of : Over → Kind
kind_of (Vec p) = kinds.Mat
kind_of (Add t) = kinds.Add
kind_of (Freyd t) = kinds.Freyd
kind_of (Rep t) = kinds.Rep

-- the certificate of a plan
unfoldable pub plan_text : List ℕ → Option Over → List OfData → Plan → List ℕ
plan_text name None entries p = []
plan_text name (Some over) entries p = cert_text (spelled_plan name (kind_of over) (record { weights = weights entries }) p)

-- the line of an answer, where these objects have appeared
abbrev pub answer_line : Home → List OfData → List (ℕ × Handle) → List ℕ → LineAnswer MorData → List ℕ
answer_line C entries seen name line.Category = []
answer_line C entries seen name (line.Registered op weight) = C.name ++ codes " registers " ++ operation_text op ++ codes " " ++ decimal weight ++ codes "\n"
answer_line C entries seen name line.Final = C.name ++ codes " final\n"
answer_line C entries seen name (line.Plan p) = plan_text C.name C.over entries p
answer_line C entries seen name (line.Refused r) = name ++ codes " ! " ++ refusal_text C seen r ++ codes "\n"
answer_line C entries seen name value = name ++ codes " = " ++ value_text C seen value ++ codes "\n"

-- a name that is bound in a category
abbrev pub with_name : List Bound → Option (List ℕ) → List ℕ → List Bound
with_name bound None home = bound
with_name bound (Some x) home = bound ++ record { name = x; category = home } ∷ []

-- the words of a category's kind, with what it is over
abbrev pub over_text : Over → List ℕ
over_text (Vec p) = codes "vec " ++ decimal p
over_text (Add t) = codes "add " ++ t
over_text (Freyd t) = codes "freyd " ++ t
over_text (Rep t) = codes "rep " ++ t

abbrev pub refused_text : List ℕ → LineAnswer MorData → List ℕ
refused_text name (line.Refused r) = name ++ codes " ! " ++ refusal_text (record { name = name; number = 0; over = None }) [] r ++ codes "\n"
refused_text name _ = []

-- a category: its kind, or why it is refused
abbrev pub category_text : List ℕ → Over → LineAnswer MorData → List ℕ
category_text name over line.Category = name ++ codes ": " ++ over_text over ++ codes "\n"
category_text name over answer = refused_text name answer

abbrev pub with_made : Book → List ℕ → Over → LineAnswer MorData → Book
with_made B name over line.Category = record { made = B.made ++ record { name = name; over = over } ∷ []; bound = B.bound; seen = B.seen }
with_made B name over answer = B

-- what is written for a command: a line for each object that appears for the first time, and its own
abbrev pub written_in : Home → List OfData → List (ℕ × Handle) → List ℕ → LineAnswer MorData → List ℕ
written_in C entries seen name answer = new_objects C (objects entries) seen (mentions answer) ++ answer_line C entries (seen_behind C seen (mentions answer)) name answer

-- what stands behind a command
abbrev pub behind_in : Book → Command CheckedObj MorLit → LineAnswer MorData → Option (List ℕ) → Book
behind_in B c answer None = B
behind_in B c answer (Some name) = record { made = B.made; bound = with_name B.bound (bound_name c) name; seen = seen_behind (home_of B.made name) B.seen (mentions answer) }

abbrev pub behind_command : Book → Command CheckedObj MorLit → LineAnswer MorData → Book
behind_command B c answer = behind_in B c answer (home_name B.bound c)

-- what stands behind a part of the prelude
abbrev pub behind_item : Book → Item CheckedObj MorLit → LineAnswer MorData → Book
behind_item B (top.Block b) answer = B
behind_item B (top.Category name over) answer = with_made B name over answer
behind_item B (top.Command c) answer = behind_command B c answer

module _ (histories : List (History ObjData MorData)) where
  -- in the category of this name; a command whose category isn't known has no text
  abbrev pub text_in : Book → Command CheckedObj MorLit → LineAnswer MorData → Option (List ℕ) → List ℕ
  text_in B c answer None = []
  text_in B c answer (Some name) = written_in (home_of B.made name) (history_of histories (home_of B.made name).number) B.seen (subject c name) answer

  abbrev pub command_text : Book → Command CheckedObj MorLit → LineAnswer MorData → List ℕ
  command_text B c answer = text_in B c answer (home_name B.bound c)

  -- a part of the prelude. Blocks are not built: theirs can only be refusals
  abbrev pub item_text : Book → Item CheckedObj MorLit → LineAnswer MorData → List ℕ
  item_text B (top.Block b) answer = refused_text b.name answer
  item_text B (top.Category name over) answer = category_text name over answer
  item_text B (top.Command c) answer = command_text B c answer
