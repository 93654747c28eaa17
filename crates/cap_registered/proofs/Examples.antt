-- Worked examples of the definitions.
use Rattle.std.proofs.Common.{◌≡◌, ℕ, List, [], ◌∷◌, Some, None, map, refl}
use Rattle.std.specs.Prelude.{codes}
use Rattle.cap_names.specs.declared.literals.MorLit.{MorLit}
use Rattle.cap_grammar.specs.declared.tree.Over.TheVariants.{Vec, Add as OfClosures}
use Rattle.cap_grammar.specs.declared.tree.Command.{Command}
use Rattle.cap_grammar.specs.declared.tree.Command.TheVariants.{Register, Finalise}
use Rattle.cap_grammar.specs.declared.tree.Item.TheVariants as top
use Rattle.cap_checked.specs.declared.tree.CheckedObj.{CheckedObj}
use Rattle.cap_check.specs.Unbuilt.{CheckedPart}
use Rattle.cap_ops.specs.declared.plans.Kind.{Kind}
use Rattle.cap_ops.specs.declared.plans.Kind.TheVariants.{Mat, Add}
use Rattle.cap_ops.specs.Operations.{Kernel, WeakKernel, Lift}
use Rattle.cap_registered.specs.Registrations.{Registered, registered_weight, categories}

abbrev part : Command CheckedObj MorLit → CheckedPart
part command = record { node = top.Command command; places = [] }

-- a matrix category V, and an additive closure W of a table; `finalise V` stands before the last register of V
abbrev parts : List CheckedPart
parts =
    record { node = top.Category (codes "V") (Vec 5); places = [] }
    ∷ part (Register (codes "V") Kernel None)
    ∷ part (Register (codes "V") Kernel (Some 7))
    ∷ part (Register (codes "V") WeakKernel (Some 3))
    ∷ part (Register (codes "W") Lift (Some 4))
    ∷ part (Finalise (codes "V"))
    ∷ part (Register (codes "V") Lift (Some 3))
    ∷ record { node = top.Category (codes "W") (OfClosures (codes "T")); places = [] }
    ∷ part (Register (codes "W") WeakKernel (Some 3))
    ∷ part (Finalise (codes "V"))
    ∷ []

-- the default weight of the first register stands
default_first : registered_weight Mat (codes "V") parts 16 ≡ Some 20
default_first = refl

-- matrices offer no weak kernels, and additive closures do
not_offered : registered_weight Mat (codes "V") parts 20 ≡ None
not_offered = refl

offered_elsewhere : registered_weight Add (codes "W") parts 20 ≡ Some 3
offered_elsewhere = refl

-- a register behind `finalise` of its category, or of another category, counts for nothing
behind_final : registered_weight Mat (codes "V") parts 22 ≡ None
behind_final = refl

of_the_other : registered_weight Add (codes "W") parts 22 ≡ Some 4
of_the_other = refl

-- the categories in order, with their kinds
abbrev name_and_kind : Registered → List ℕ × Kind
name_and_kind r = (r.name, r.kind)

in_order : map name_and_kind (categories parts) ≡ (codes "V", Mat) ∷ (codes "W", Add) ∷ []
in_order = refl
