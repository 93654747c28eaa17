-- Blocks, categories and what stands before the sessions are read as the grammar says.
use Rattle.std.proofs.Common.{◌≡◌, ℕ, List, ◌++◌, Bool, false, refl, sym, ap, ◌∙◌, inl, inr, append_assoc}
use Rattle.std.specs.Prelude.{◌⊎◌, Option, Some, None}
use Rattle.cap_reading.specs.Languages.{Joined, ◌·◌, made, each, some_of}
use Rattle.cap_reading.proofs.Law.{Law, Leads, Apart, never, one_of, law_as, apart_sym}
use Rattle.cap_reading.proofs.Items.{law_mapped}
use Rattle.cap_reading.proofs.Sequences.{law_then, leads_first, joined}
use Rattle.cap_reading.proofs.Choices.{law_either, from_or, from_made, leads_made, leads_or, apart_or}
use Rattle.cap_reading.proofs.Repetitions.{law_many, law_some_of}
use Rattle.cap_grammar.specs.declared.symbol.Fixed.{Fixed}
use Rattle.cap_grammar.specs.declared.symbol.Fixed.TheVariants as word
use Rattle.cap_grammar.specs.declared.symbol.Symbol.{Symbol}
use Rattle.cap_grammar.specs.declared.symbol.Symbol.TheVariants as symbol
use Rattle.cap_grammar.specs.declared.tree.TermTok.{TermTok}
use Rattle.cap_grammar.specs.declared.tree.ObjTok.{ObjTok}
use Rattle.cap_grammar.specs.declared.tree.MorTok.{MorTok}
use Rattle.cap_grammar.specs.declared.tree.Over.{Over}
use Rattle.cap_grammar.specs.declared.tree.Over.TheVariants as kind
use Rattle.cap_grammar.specs.declared.tree.BlockLine.{BlockLine}
use Rattle.cap_grammar.specs.declared.tree.BlockLine.TheVariants as line
use Rattle.cap_grammar.specs.declared.tree.Block.{Block}
use Rattle.cap_grammar.specs.declared.tree.Item.{Item}
use Rattle.cap_grammar.specs.declared.tree.Item.TheVariants as top
use Rattle.cap_grammar.specs.Grammar.{fixed, name, number, combo, sum, over, table_line, quiver_line, objects, block, command, part}
use Rattle.cap_literals.specs.Reading.{is, is_name}
use Rattle.cap_literals.proofs.Symbols.{apart, law_behind, law_up_to, leads_fixed, law_never}
use Rattle.cap_literals.proofs.Laws.{law_name, law_number, law_combo, law_sum, name_begins}
use Rattle.cap_parser.specs.Commands.{starts_command}
use Rattle.cap_parser.specs.Blocks.{over_at, new_category, category_at, three_names_at, new_basis, basis_at, new_unit, unit_at, new_product, product_at, starts_table_line, table_line_at, new_arrow, arrow_at, relation_at, starts_quiver_line, quiver_line_at, some_names_at, objects_at, table_lines_at, quiver_lines_at, table_head_at, new_table, table_at, quiver_head_at, new_quiver, quiver_at, starts_part, part_at}
use Rattle.cap_parser.proofs.CommandLaws.{law_command, command_begins}

-- "vec" NUM | "add" NAME | "freyd" NAME | "rep" NAME
abbrev vec_text : ℕ → List Symbol → Type 0
vec_text n = fixed word.Vec · number n

abbrev of_name : Fixed → List ℕ → List Symbol → Type 0
of_name w n = fixed w · name n

abbrev over_freyd : Over → List Symbol → Type 0
over_freyd o l = made kind.Freyd (of_name word.Freyd) o l ⊎ made kind.Rep (of_name word.Rep) o l

abbrev over_add : Over → List Symbol → Type 0
over_add o l = made kind.Add (of_name word.Add) o l ⊎ over_freyd o l

from_over : (o : Over) (l : List Symbol) → over o l → made kind.Vec vec_text o l ⊎ over_add o l
from_over (kind.Vec n) l h = inl (n, refl, h)
from_over (kind.Add n) l h = inr (inl (n, refl, h))
from_over (kind.Freyd n) l h = inr (inr (inl (n, refl, h)))
from_over (kind.Rep n) l h = inr (inr (inr (n, refl, h)))

to_over : (o : Over) (l : List Symbol) → made kind.Vec vec_text o l ⊎ over_add o l → over o l
to_over = from_or over (from_made over (λ x l h. h)) (from_or over (from_made over (λ x l h. h)) (from_or over (from_made over (λ x l h. h)) (from_made over (λ x l h. h))))

add_begins : Leads (is word.Add) (made kind.Add (of_name word.Add))
add_begins = leads_made (is word.Add) kind.Add (of_name word.Add) (leads_fixed word.Add name)

freyd_begins : Leads (is word.Freyd) (made kind.Freyd (of_name word.Freyd))
freyd_begins = leads_made (is word.Freyd) kind.Freyd (of_name word.Freyd) (leads_fixed word.Freyd name)

rep_begins : Leads (is word.Rep) (made kind.Rep (of_name word.Rep))
rep_begins = leads_made (is word.Rep) kind.Rep (of_name word.Rep) (leads_fixed word.Rep name)

abbrev freyd_or : Symbol → Bool
freyd_or = one_of (is word.Freyd) (is word.Rep)

abbrev add_or : Symbol → Bool
add_or = one_of (is word.Add) freyd_or

freyd_or_begins : Leads freyd_or over_freyd
freyd_or_begins = leads_or (is word.Freyd) (is word.Rep) (made kind.Freyd (of_name word.Freyd)) (made kind.Rep (of_name word.Rep)) freyd_begins rep_begins

add_or_begins : Leads add_or over_add
add_or_begins = leads_or (is word.Add) freyd_or (made kind.Add (of_name word.Add)) over_freyd add_begins freyd_or_begins

freyd_or_apart : (w : Fixed) → is w (symbol.Fixed word.Freyd) ≡ false → is w (symbol.Fixed word.Rep) ≡ false → Apart freyd_or (is w)
freyd_or_apart w f r = apart_or (is word.Freyd) (is word.Rep) (is w) (apart word.Freyd (is w) f) (apart word.Rep (is w) r)

law_over : Law over_at over never
unfolding over_at
law_over =
    law_never (law_as over to_over from_over
    (law_either (is word.Vec) (law_mapped kind.Vec (law_behind word.Vec law_number))
    (law_never (law_either (is word.Add) (law_mapped kind.Add (law_behind word.Add law_name))
    (law_never (law_either (is word.Freyd) (law_mapped kind.Freyd (law_behind word.Freyd law_name)) (law_mapped kind.Rep (law_behind word.Rep law_name))
    (is word.Rep) freyd_begins rep_begins (apart word.Rep (is word.Freyd) refl)))
    freyd_or add_begins freyd_or_begins (freyd_or_apart word.Add refl refl)))
    add_or
    (leads_made (is word.Vec) kind.Vec vec_text (leads_fixed word.Vec number))
    add_or_begins
    (apart_or (is word.Add) freyd_or (is word.Vec) (apart word.Add (is word.Vec) refl) (freyd_or_apart word.Vec refl refl))))

abbrev category_text : List ℕ × Over → List Symbol → Type 0
category_text x = fixed word.Category · name x.0 · over x.1 · fixed word.Newline

law_category : Law category_at (made new_category category_text) never
unfolding category_at
law_category = law_mapped new_category (law_behind word.Category (law_then law_name (law_up_to word.Newline refl law_over)))

-- lines of a table
abbrev three_text : List ℕ × (List ℕ × List ℕ) → List Symbol → Type 0
three_text x = name x.0 · name x.1.0 · name x.1.1 · fixed word.Newline

law_three : Law three_names_at three_text never
unfolding three_names_at
law_three = law_then law_name (law_then law_name (law_up_to word.Newline refl law_name))

abbrev basis_text : List ℕ × (List ℕ × List ℕ) → List Symbol → Type 0
basis_text x = fixed word.Basis · three_text x

law_basis : Law basis_at (made new_basis basis_text) never
unfolding basis_at
law_basis = law_mapped new_basis (law_behind word.Basis law_three)

abbrev unit_text : List ℕ × List TermTok → List Symbol → Type 0
unit_text x = fixed word.Unit · name x.0 · fixed word.Equals · combo x.1 · fixed word.Newline

law_unit : Law unit_at (made new_unit unit_text) never
unfolding unit_at
law_unit = law_mapped new_unit (law_behind word.Unit (law_then law_name (law_behind word.Equals (law_up_to word.Newline refl law_combo))))

abbrev product_text : List ℕ × (List ℕ × List TermTok) → List Symbol → Type 0
product_text x = fixed word.Product · name x.0 · name x.1.0 · fixed word.Equals · combo x.1.1 · fixed word.Newline

law_product : Law product_at (made new_product product_text) never
unfolding product_at
law_product = law_mapped new_product (law_behind word.Product (law_then law_name (law_then law_name (law_behind word.Equals (law_up_to word.Newline refl law_combo)))))

abbrev of_unit : BlockLine → List Symbol → Type 0
of_unit b l = made new_unit unit_text b l ⊎ made new_product product_text b l

from_table_line : (b : BlockLine) (l : List Symbol) → table_line b l → made new_basis basis_text b l ⊎ of_unit b l
from_table_line (line.Basis b src tgt) l h = inl ((b, (src, tgt)), refl, h)
from_table_line (line.Unit x c) l h = inr (inl ((x, c), refl, h))
from_table_line (line.Product left right c) l h = inr (inr ((left, (right, c)), refl, h))
from_table_line (line.Arrow a src tgt) l h = absurd h
from_table_line (line.Relation s) l h = absurd h

basis_begins : Leads (is word.Basis) (made new_basis basis_text)
basis_begins = leads_made (is word.Basis) new_basis basis_text (leads_fixed word.Basis three_text)

unit_begins : Leads (is word.Unit) (made new_unit unit_text)
unit_begins = leads_made (is word.Unit) new_unit unit_text (leads_fixed word.Unit (λ x. name x.0 · fixed word.Equals · combo x.1 · fixed word.Newline))

product_begins : Leads (is word.Product) (made new_product product_text)
product_begins = leads_made (is word.Product) new_product product_text (leads_fixed word.Product (λ x. name x.0 · name x.1.0 · fixed word.Equals · combo x.1.1 · fixed word.Newline))

abbrev unit_or : Symbol → Bool
unit_or = one_of (is word.Unit) (is word.Product)

unit_or_begins : Leads unit_or of_unit
unit_or_begins = leads_or (is word.Unit) (is word.Product) (made new_unit unit_text) (made new_product product_text) unit_begins product_begins

pub law_table_line : Law table_line_at table_line never
unfolding table_line_at
law_table_line =
    law_never (law_as table_line (from_or table_line (from_made table_line (λ x l h. h)) (from_or table_line (from_made table_line (λ x l h. h)) (from_made table_line (λ x l h. h)))) from_table_line
    (law_either (is word.Basis) law_basis
    (law_never (law_either (is word.Unit) law_unit law_product (is word.Product) unit_begins product_begins (apart word.Product (is word.Unit) refl)))
    unit_or basis_begins unit_or_begins
    (apart_or (is word.Unit) (is word.Product) (is word.Basis) (apart word.Unit (is word.Basis) refl) (apart word.Product (is word.Basis) refl))))

pub table_line_begins : Leads starts_table_line table_line
table_line_begins b l h = leads_or (is word.Basis) unit_or (made new_basis basis_text) of_unit basis_begins unit_or_begins b l (from_table_line b l h)

-- lines of a quiver
abbrev arrow_text : List ℕ × (List ℕ × List ℕ) → List Symbol → Type 0
arrow_text x = fixed word.Arrow · three_text x

law_arrow : Law arrow_at (made new_arrow arrow_text) never
unfolding arrow_at
law_arrow = law_mapped new_arrow (law_behind word.Arrow law_three)

abbrev relation_text : List TermTok → List Symbol → Type 0
relation_text s = fixed word.Relation · sum s · fixed word.Newline

law_relation : Law relation_at (made line.Relation relation_text) never
unfolding relation_at
law_relation = law_mapped line.Relation (law_behind word.Relation (law_up_to word.Newline refl law_sum))

from_quiver_line : (b : BlockLine) (l : List Symbol) → quiver_line b l → made new_arrow arrow_text b l ⊎ made line.Relation relation_text b l
from_quiver_line (line.Basis b src tgt) l h = absurd h
from_quiver_line (line.Unit x c) l h = absurd h
from_quiver_line (line.Product left right c) l h = absurd h
from_quiver_line (line.Arrow a src tgt) l h = inl ((a, (src, tgt)), refl, h)
from_quiver_line (line.Relation s) l h = inr (s, refl, h)

arrow_begins : Leads (is word.Arrow) (made new_arrow arrow_text)
arrow_begins = leads_made (is word.Arrow) new_arrow arrow_text (leads_fixed word.Arrow three_text)

relation_begins : Leads (is word.Relation) (made line.Relation relation_text)
relation_begins = leads_made (is word.Relation) line.Relation relation_text (leads_fixed word.Relation (λ s. sum s · fixed word.Newline))

pub law_quiver_line : Law quiver_line_at quiver_line never
unfolding quiver_line_at
law_quiver_line =
    law_never (law_as quiver_line (from_or quiver_line (from_made quiver_line (λ x l h. h)) (from_made quiver_line (λ x l h. h))) from_quiver_line
    (law_either (is word.Arrow) law_arrow law_relation (is word.Relation) arrow_begins relation_begins (apart word.Relation (is word.Arrow) refl)))

pub quiver_line_begins : Leads starts_quiver_line quiver_line
quiver_line_begins b l h = leads_or (is word.Arrow) (is word.Relation) (made new_arrow arrow_text) (made line.Relation relation_text) arrow_begins relation_begins b l (from_quiver_line b l h)

-- "objects" NAME {NAME} LF
never_apart : (is : Symbol → Bool) → Apart is never
never_apart is t h = refl

law_some_names : Law some_names_at (some_of name name) (one_of is_name never)
unfolding some_names_at
law_some_names = law_some_of is_name name_begins (never_apart is_name) law_name

law_objects : Law objects_at objects never
unfolding objects_at
law_objects = law_behind word.Objects (law_up_to word.Newline refl law_some_names)

-- { line } "end" LF
regroup_to : {p q r : List Symbol → Type 0} (l : List Symbol) → Joined (Joined p q) r l → Joined p (Joined q r) l
regroup_to l h = record {
  front = h.first.front;
  rest = h.first.rest ++ h.rest;
  split = h.split ∙ ap (λ f. f ++ h.rest) h.first.split ∙ append_assoc h.first.front h.first.rest h.rest;
  first = h.first.first;
  second = joined h.first.rest h.rest h.first.second h.second;
}

regroup_from : {p q r : List Symbol → Type 0} (l : List Symbol) → Joined p (Joined q r) l → Joined (Joined p q) r l
regroup_from l h = record {
  front = h.front ++ h.second.front;
  rest = h.second.rest;
  split = h.split ∙ ap (λ k. h.front ++ k) h.second.split ∙ sym (append_assoc h.front h.second.front h.second.rest);
  first = joined h.front h.second.front h.first h.second.first;
  second = h.second.second;
}

abbrev table_lines_text : List BlockLine → List Symbol → Type 0
table_lines_text ls = each table_line ls · fixed word.End · fixed word.Newline

law_table_lines : Law table_lines_at table_lines_text never
unfolding table_lines_at
law_table_lines =
    law_as table_lines_text (λ ls l h. regroup_to l h) (λ ls l h. regroup_from l h)
    (law_up_to word.Newline refl (law_up_to word.End refl (law_many starts_table_line law_table_line table_line_begins (never_apart starts_table_line))))

abbrev quiver_lines_text : List BlockLine → List Symbol → Type 0
quiver_lines_text ls = each quiver_line ls · fixed word.End · fixed word.Newline

law_quiver_lines : Law quiver_lines_at quiver_lines_text never
unfolding quiver_lines_at
law_quiver_lines =
    law_as quiver_lines_text (λ ls l h. regroup_to l h) (λ ls l h. regroup_from l h)
    (law_up_to word.Newline refl (law_up_to word.End refl (law_many starts_quiver_line law_quiver_line quiver_line_begins (never_apart starts_quiver_line))))

-- a table
abbrev table_head_text : List ℕ × ℕ → List Symbol → Type 0
table_head_text x = fixed word.Table · name x.0 · fixed word.Prime · number x.1 · fixed word.Newline

law_table_head : Law table_head_at table_head_text never
unfolding table_head_at
law_table_head = law_behind word.Table (law_then law_name (law_behind word.Prime (law_up_to word.Newline refl law_number)))

abbrev table_text : (List ℕ × ℕ) × (List (List ℕ) × List BlockLine) → List Symbol → Type 0
table_text x = table_head_text x.0 · objects x.1.0 · table_lines_text x.1.1

law_table : Law table_at (made new_table table_text) never
unfolding table_at
law_table = law_mapped new_table (law_then law_table_head (law_then law_objects law_table_lines))

-- a quiver
abbrev quiver_head_text : List ℕ × (ℕ × ℕ) → List Symbol → Type 0
quiver_head_text x = fixed word.Quiver · name x.0 · fixed word.Prime · number x.1.0 · fixed word.Bound · number x.1.1 · fixed word.Newline

law_quiver_head : Law quiver_head_at quiver_head_text never
unfolding quiver_head_at
law_quiver_head = law_behind word.Quiver (law_then law_name (law_behind word.Prime (law_then law_number (law_behind word.Bound (law_up_to word.Newline refl law_number)))))

abbrev quiver_text : (List ℕ × (ℕ × ℕ)) × (List (List ℕ) × List BlockLine) → List Symbol → Type 0
quiver_text x = quiver_head_text x.0 · objects x.1.0 · quiver_lines_text x.1.1

law_quiver : Law quiver_at (made new_quiver quiver_text) never
unfolding quiver_at
law_quiver = law_mapped new_quiver (law_then law_quiver_head (law_then law_objects law_quiver_lines))

-- block | category | command
abbrev of_table : Item ObjTok MorTok → List Symbol → Type 0
of_table = made top.Block (made new_table table_text)

abbrev of_quiver : Item ObjTok MorTok → List Symbol → Type 0
of_quiver = made top.Block (made new_quiver quiver_text)

abbrev category_or_text : Item ObjTok MorTok → List Symbol → Type 0
category_or_text i l = made new_category category_text i l ⊎ made top.Command command i l

abbrev quiver_or_text : Item ObjTok MorTok → List Symbol → Type 0
quiver_or_text i l = of_quiver i l ⊎ category_or_text i l

from_block : (n : List ℕ) (prime : ℕ) (bound : Option ℕ) (os : List (List ℕ)) (ls : List BlockLine) (l : List Symbol)
    → block (record { name = n; prime = prime; bound = bound; objects = os; lines = ls }) l
    → made new_table table_text (record { name = n; prime = prime; bound = bound; objects = os; lines = ls }) l ⊎ made new_quiver quiver_text (record { name = n; prime = prime; bound = bound; objects = os; lines = ls }) l
from_block n prime None os ls l h = inl (((n, prime), (os, ls)), refl, h)
from_block n prime (Some bound) os ls l h = inr (((n, (prime, bound)), (os, ls)), refl, h)

of_block : (b : Block) (l : List Symbol) → made new_table table_text b l ⊎ made new_quiver quiver_text b l → of_table (top.Block b) l ⊎ quiver_or_text (top.Block b) l
of_block b l (inl h) = inl (b, refl, h)
of_block b l (inr h) = inr (inl (b, refl, h))

from_part : (i : Item ObjTok MorTok) (l : List Symbol) → part i l → of_table i l ⊎ quiver_or_text i l
from_part (top.Block b) l h = of_block b l (from_block b.name b.prime b.bound b.objects b.lines l h)
from_part (top.Category n o) l h = inr (inr (inl ((n, o), refl, h)))
from_part (top.Command c) l h = inr (inr (inr (c, refl, h)))

to_table : (b : Block) (l : List Symbol) → made new_table table_text b l → block b l
to_table = from_made block (λ x l h. h)

to_quiver : (b : Block) (l : List Symbol) → made new_quiver quiver_text b l → block b l
to_quiver = from_made block (λ x l h. h)

to_part : (i : Item ObjTok MorTok) (l : List Symbol) → of_table i l ⊎ quiver_or_text i l → part i l
to_part =
    from_or part (from_made part (λ b l h. to_table b l h))
    (from_or part (from_made part (λ b l h. to_quiver b l h))
    (from_or part (from_made part (λ x l h. h)) (from_made part (λ c l h. h))))

table_begins : Leads (is word.Table) of_table
table_begins =
    leads_made (is word.Table) top.Block (made new_table table_text)
    (leads_made (is word.Table) new_table table_text
    (leads_first (is word.Table) table_head_text (λ y. objects y.0 · table_lines_text y.1)
    (leads_fixed word.Table (λ x. name x.0 · fixed word.Prime · number x.1 · fixed word.Newline))))

quiver_begins : Leads (is word.Quiver) of_quiver
quiver_begins =
    leads_made (is word.Quiver) top.Block (made new_quiver quiver_text)
    (leads_made (is word.Quiver) new_quiver quiver_text
    (leads_first (is word.Quiver) quiver_head_text (λ y. objects y.0 · quiver_lines_text y.1)
    (leads_fixed word.Quiver (λ x. name x.0 · fixed word.Prime · number x.1.0 · fixed word.Bound · number x.1.1 · fixed word.Newline))))

category_begins : Leads (is word.Category) (made new_category category_text)
category_begins = leads_made (is word.Category) new_category category_text (leads_fixed word.Category (λ x. name x.0 · over x.1 · fixed word.Newline))

made_command_begins : Leads starts_command (made top.Command command)
made_command_begins = leads_made starts_command top.Command command command_begins

abbrev category_or : Symbol → Bool
category_or = one_of (is word.Category) starts_command

abbrev quiver_or : Symbol → Bool
quiver_or = one_of (is word.Quiver) category_or

category_or_begins : Leads category_or category_or_text
category_or_begins = leads_or (is word.Category) starts_command (made new_category category_text) (made top.Command command) category_begins made_command_begins

quiver_or_begins : Leads quiver_or quiver_or_text
quiver_or_begins = leads_or (is word.Quiver) category_or of_quiver category_or_text quiver_begins category_or_begins

-- a word that begins no command
command_apart : (w : Fixed) → starts_command (symbol.Fixed w) ≡ false → Apart starts_command (is w)
command_apart w h = apart_sym (apart w starts_command h)

pub law_part : Law part_at part never
unfolding part_at
law_part =
    law_never (law_as part to_part from_part
    (law_either (is word.Table) (law_mapped top.Block law_table)
    (law_never (law_either (is word.Quiver) (law_mapped top.Block law_quiver)
    (law_never (law_either (is word.Category) law_category (law_mapped top.Command law_command) starts_command category_begins made_command_begins (command_apart word.Category refl)))
    category_or quiver_begins category_or_begins (apart_or (is word.Category) starts_command (is word.Quiver) (apart word.Category (is word.Quiver) refl) (command_apart word.Quiver refl))))
    quiver_or table_begins quiver_or_begins
    (apart_sym (apart word.Table quiver_or refl))))

pub part_begins : Leads starts_part part
part_begins i l h = leads_or (is word.Table) quiver_or of_table quiver_or_text table_begins quiver_or_begins i l (from_part i l h)
