-- What is not built yet: blocks, and categories of other kinds than matrices over a field (this project's own).
use Rattle.std.specs.Prelude.{ℕ, List, Option, Some, None, slice_index_or, option_map, option_to_list}
use Rattle.std.specs.List.{flat_map}
use Rattle.cap_names.specs.declared.literals.MorLit.{MorLit}
use Rattle.cap_names.specs.declared.reasons.BadScript.{BadScript}
use Rattle.cap_names.specs.declared.reasons.Reason.TheVariants.{Limit}
use Rattle.cap_grammar.specs.declared.tree.Place.{Place}
use Rattle.cap_grammar.specs.declared.tree.Placed.{Placed}
use Rattle.cap_grammar.specs.declared.tree.Over.{Over}
use Rattle.cap_grammar.specs.declared.tree.Over.TheVariants.{Vec, Add, Freyd, Rep}
use Rattle.cap_grammar.specs.declared.tree.Item.{Item}
use Rattle.cap_grammar.specs.declared.tree.Item.TheVariants as top
use Rattle.cap_block_faults.specs.Marks.{fault_at}
use Rattle.cap_checked.specs.declared.tree.CheckedObj.{CheckedObj}

abbrev pub CheckedPart : Type 0
CheckedPart = Placed (Item CheckedObj MorLit)

-- the token of a category that tells a kind that is not built: `category`, the name and the kind's word
abbrev pub unbuilt_kind : Over → Option ℕ
unbuilt_kind (Vec prime) = None
unbuilt_kind (Add block) = Some 2
unbuilt_kind (Freyd block) = Some 2
unbuilt_kind (Rep block) = Some 2

-- the token of a part that tells that it is not built: a block's first word
abbrev pub unbuilt_token : Item CheckedObj MorLit → Option ℕ
unbuilt_token (top.Block b) = Some 0
unbuilt_token (top.Category n over) = unbuilt_kind over
unbuilt_token (top.Command c) = None

-- the place of this token. Each token of a parsed part has one, and one without is told where texts begin
abbrev pub place_of : List Place → ℕ → Place
place_of places token = slice_index_or places token (record { line = 1; column = 1 })

abbrev pub unbuilt_at : List Place → ℕ → BadScript
unbuilt_at places token = fault_at (place_of places token) Limit

abbrev pub unbuilt_part : CheckedPart → Option BadScript
unbuilt_part p = option_map (unbuilt_at p.places) (unbuilt_token p.node)

-- all of them, in the order of the prelude
abbrev pub unbuilt : List CheckedPart → List BadScript
unbuilt parts = flat_map (λ p. option_to_list (unbuilt_part p)) parts
