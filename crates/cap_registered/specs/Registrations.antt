-- What the commands of a prelude register (this project's own script language).
use Rattle.std.specs.Prelude.{ℕ, List, Bool, false, ◌==◌, if◌then◌else◌, Option, Some, None, map, find, unwrap_or, option_map, option_and_then}
use Rattle.std.specs.List.{filter_map, before_first, range_with_len}
use Rattle.cap_names.specs.declared.identifiers.OpId.{OpId}
use Rattle.cap_names.specs.declared.literals.MorLit.{MorLit}
use Rattle.cap_grammar.specs.declared.tree.Over.{Over}
use Rattle.cap_grammar.specs.declared.tree.Over.TheVariants as over
use Rattle.cap_grammar.specs.declared.tree.Command.{Command}
use Rattle.cap_grammar.specs.declared.tree.Command.TheVariants.{Register, Finalise, Plan, Object, Src, Tgt, Let, Call}
use Rattle.cap_grammar.specs.declared.tree.Item.{Item}
use Rattle.cap_grammar.specs.declared.tree.Item.TheVariants as top
use Rattle.cap_block_faults.specs.Names.{same}
use Rattle.cap_checked.specs.declared.tree.CheckedObj.{CheckedObj}
use Rattle.cap_check.specs.Unbuilt.{CheckedPart}
use Rattle.cap_ops.specs.declared.plans.Kind.{Kind}
use Rattle.cap_ops.specs.declared.plans.Kind.TheVariants as kinds
use Rattle.cap_ops.specs.declared.plans.Regs.{Regs}
use Rattle.cap_ops.specs.Offered.{offered_weight}

-- a command makes the category of this name final
abbrev pub is_finalise : List ℕ → Command CheckedObj MorLit → Bool
is_finalise name (Register cat op weight) = false
is_finalise name (Finalise cat) = same cat name
is_finalise name (Plan cat) = false
is_finalise name (Object cat x lit) = false
is_finalise name (Src x of) = false
is_finalise name (Tgt x of) = false
is_finalise name (Let x cat src tgt lit) = false
is_finalise name (Call x cat op args) = false

-- a part does
abbrev pub finalises : List ℕ → Item CheckedObj MorLit → Bool
finalises name (top.Block b) = false
finalises name (top.Category n o) = false
finalises name (top.Command c) = is_finalise name c

-- the parts before the category of this name is final: all of them where it never is
abbrev pub before_final : List ℕ → List CheckedPart → List CheckedPart
before_final name parts = before_first (λ p. finalises name p.node) parts

-- what a command asks to register in the category of this name: the operation, with its weight where one is written
abbrev pub asked : List ℕ → Command CheckedObj MorLit → Option (OpId × Option ℕ)
asked name (Register cat op weight) = if same cat name then Some (op, weight) else None
asked name (Finalise cat) = None
asked name (Plan cat) = None
asked name (Object cat x lit) = None
asked name (Src x of) = None
asked name (Tgt x of) = None
asked name (Let x cat src tgt lit) = None
asked name (Call x cat op args) = None

-- what a part asks to register there
abbrev pub registration : List ℕ → Item CheckedObj MorLit → Option (OpId × Option ℕ)
registration name (top.Block b) = None
registration name (top.Category n o) = None
registration name (top.Command c) = asked name c

-- all that is asked before the category is final, in order
abbrev pub registrations : List ℕ → List CheckedPart → List (OpId × Option ℕ)
registrations name parts = filter_map (λ p. registration name p.node) (before_final name parts)

-- the first of them for an operation, by its number
abbrev pub first_for : ℕ → List (OpId × Option ℕ) → Option (OpId × Option ℕ)
first_for op asks = find (λ ask. ask.0.0 == op) asks

-- what they register of an operation: the weight of the first that asks for it, the kind's default where it writes none; nothing where the kind does not offer the operation
abbrev pub weight_among : Kind → List (OpId × Option ℕ) → ℕ → Option ℕ
weight_among kind asks op = option_and_then (λ default. option_map (λ ask. unwrap_or ask.1 default) (first_for op asks)) (offered_weight kind op)

-- the registered weight of an operation, by its number, in the category of this name and kind
abbrev pub registered_weight : Kind → List ℕ → List CheckedPart → ℕ → Option ℕ
registered_weight kind name parts op = weight_among kind (registrations name parts) op

-- those of all operations, in order of number
unfoldable pub registered_weights : Kind → List ℕ → List CheckedPart → List (Option ℕ)
registered_weights kind name parts = map (registered_weight kind name parts) (range_with_len 1 44)

-- the kind of what a category is over
abbrev pub kind_of : Over → Kind
kind_of (over.Vec prime) = kinds.Mat
kind_of (over.Add block) = kinds.Add
kind_of (over.Freyd block) = kinds.Freyd
kind_of (over.Rep block) = kinds.Rep

-- a category with its registrations
pub record Registered : Type 0 where
  pub name : List ℕ
  pub kind : Kind
  pub regs : Regs

-- the category of this name and kind, with what the parts register in it
abbrev pub registered : List CheckedPart → List ℕ → Kind → Registered
registered parts name kind = record { name = name; kind = kind; regs = record { weights = registered_weights kind name parts } }

-- a part's category, with what all the parts register in it
abbrev pub category : List CheckedPart → Item CheckedObj MorLit → Option Registered
category parts (top.Block b) = None
category parts (top.Category name o) = Some (registered parts name (kind_of o))
category parts (top.Command c) = None

-- the categories among some parts
abbrev pub categories_among : List CheckedPart → List CheckedPart → List Registered
categories_among parts some_parts = filter_map (λ p. category parts p.node) some_parts

-- the categories of a prelude, in order
abbrev pub categories : List CheckedPart → List Registered
categories parts = categories_among parts parts
