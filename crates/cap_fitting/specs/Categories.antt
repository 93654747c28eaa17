-- The categories and blocks of a script's prelude, whatever its literals are (this project's own script language).
use Rattle.std.specs.Prelude.{ℕ, List, Bool, true, false, Option, Some, None, find, option_and_then, count_by}
use Rattle.std.specs.List.{list_any}
use Rattle.cap_grammar.specs.declared.tree.Placed.{Placed}
use Rattle.cap_grammar.specs.declared.tree.Over.{Over}
use Rattle.cap_grammar.specs.declared.tree.Item.{Item}
use Rattle.cap_grammar.specs.declared.tree.Item.TheVariants as top
use Rattle.cap_block_faults.specs.Names.{same}

-- what a part is over, where it is a category
abbrev pub over_in : {O M : Type 0} → Item O M → Option Over
over_in (top.Block b) = None
over_in (top.Category n over) = Some over
over_in (top.Command c) = None

-- a category, and one of this name
abbrev pub is_category : {O M : Type 0} → Item O M → Bool
is_category (top.Block b) = false
is_category (top.Category n over) = true
is_category (top.Command c) = false

abbrev pub is_category_named : {O M : Type 0} → List ℕ → Item O M → Bool
is_category_named name (top.Block b) = false
is_category_named name (top.Category n over) = same n name
is_category_named name (top.Command c) = false

-- a block of this name
abbrev pub is_block_named : {O M : Type 0} → List ℕ → Item O M → Bool
is_block_named name (top.Block b) = same b.name name
is_block_named name (top.Category n over) = false
is_block_named name (top.Command c) = false

-- what the category of this name is over, where there is one among the parts
abbrev pub category_over : {O M : Type 0} → List (Placed (Item O M)) → List ℕ → Option Over
category_over parts name = option_and_then (λ p. over_in p.node) (find (λ p. is_category_named name p.node) parts)

-- whether a block among the parts has this name
abbrev pub has_block : {O M : Type 0} → List (Placed (Item O M)) → List ℕ → Bool
has_block parts name = list_any (λ p. is_block_named name p.node) parts

-- how many of the parts are categories
abbrev pub number_of_categories : {O M : Type 0} → List (Placed (Item O M)) → ℕ
number_of_categories parts = count_by (λ p. is_category p.node) parts
