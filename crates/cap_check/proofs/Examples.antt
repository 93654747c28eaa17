-- Worked examples of the definitions.
use Rattle.std.proofs.Common.{◌≡◌, ℕ, [], ◌∷◌, refl}
use Rattle.std.specs.Prelude.{codes, Some}
use Rattle.cap_names.specs.declared.reasons.BadScript.{BadScript}
use Rattle.cap_names.specs.declared.reasons.Reason.TheVariants.{Limit}
use Rattle.cap_grammar.specs.declared.tree.Place.{Place}
use Rattle.cap_grammar.specs.declared.tree.Over.TheVariants.{Vec, Freyd}
use Rattle.cap_grammar.specs.declared.tree.Item.TheVariants as top
use Rattle.cap_check.specs.Unbuilt.{CheckedPart, unbuilt}

abbrev at : ℕ → ℕ → Place
at line column = record { line = line; column = column }

abbrev wrong : ℕ → ℕ → BadScript
wrong line column = record { line = line; column = column; reason = Limit }

-- category V vec 5
abbrev over_field : CheckedPart
over_field = record { node = top.Category (codes "V") (Vec 5); places = at 1 1 ∷ at 1 10 ∷ at 1 12 ∷ at 1 16 ∷ at 1 17 ∷ [] }

-- quiver Q prime 2 bound 1, objects A, end
abbrev quiver : CheckedPart
quiver = record { node = top.Block (record { name = codes "Q"; prime = 2; bound = Some 1; objects = codes "A" ∷ []; lines = [] }); places = at 2 1 ∷ at 2 8 ∷ [] }

-- category F freyd Q
abbrev over_quiver : CheckedPart
over_quiver = record { node = top.Category (codes "F") (Freyd (codes "Q")); places = at 5 1 ∷ at 5 10 ∷ at 5 12 ∷ at 5 18 ∷ at 5 19 ∷ [] }

-- the block is told at its first word, and the category at the word of its kind
in_order : unbuilt (over_field ∷ quiver ∷ over_quiver ∷ []) ≡ wrong 2 1 ∷ wrong 5 12 ∷ []
in_order = refl
