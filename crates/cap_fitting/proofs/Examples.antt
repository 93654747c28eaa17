-- Worked examples of the definitions.
use Rattle.std.proofs.Common.{◌≡◌, ℕ, [], ◌∷◌, List, Some, None, refl, arith}
use Rattle.std.specs.Prelude.{codes}
use Rattle.cap_grammar.specs.declared.tree.RefTok.{RefTok}
use Rattle.cap_grammar.specs.declared.tree.ArgTok.TheVariants as argument
use Rattle.cap_grammar.specs.declared.tree.Over.TheVariants.{Vec}
use Rattle.cap_grammar.specs.declared.tree.Command.TheVariants.{Finalise, Call}
use Rattle.cap_grammar.specs.declared.tree.Item.TheVariants as top
use Rattle.cap_grammar.specs.declared.tree.Command.{Command}
use Rattle.cap_ops.specs.declared.sorts.Sort.TheVariants.{Obj, Tuple}
use Rattle.cap_faults.specs.declared.values.Value.{Value}
use Rattle.cap_faults.specs.Commands.{value}
use Rattle.cap_check.specs.Unbuilt.{CheckedPart}
use Rattle.cap_fitting.specs.Values.{bound_by, values_of_parts}
use Rattle.cap_fitting.specs.Categories.{category_over, number_of_categories}
use Rattle.cap_fitting.specs.Commands.{Scope, IsNew, RefersToObject, RefersToMorphism, ArgumentsFit, CommandFits}

abbrev ref : List ℕ → RefTok
ref name = record { name = name; part = None }

-- category V vec 5
abbrev parts : List CheckedPart
parts = record { node = top.Category (codes "V") (Vec 5); places = [] } ∷ []

-- an object a, and a tuple p of two morphisms
abbrev values : List Value
values = value (codes "a") (codes "V") Obj ∷ value (codes "p") (codes "V") (Tuple 2) ∷ []

over_field : category_over parts (codes "V") ≡ Some (Vec 5)
over_field = refl

unknown : category_over parts (codes "W") ≡ None
unknown = refl

one_category : number_of_categories parts ≡ 1
one_category = refl

none_bound : values_of_parts parts ≡ []
none_bound = refl

-- let k = V Product binds a tuple of two morphisms, whatever its arguments are
two : Command ℕ ℕ
two = Call (codes "k") (codes "V") (record { 0 = 12 }) []

a_tuple : bound_by values two ≡ value (codes "k") (codes "V") (Tuple 2) ∷ []
unfolding two
a_tuple = refl

-- an object fits Identity
fits : ArgumentsFit values (codes "V") (Obj ∷ []) (argument.Ref (ref (codes "a")) ∷ [])
fits = (record { value = value (codes "a") (codes "V") Obj; bound = refl; category = refl; object = refl; whole = refl }, tt)

-- a part of a tuple is a morphism
second : RefersToMorphism values (codes "V") (record { name = codes "p"; part = Some 2 })
second = record { value = value (codes "p") (codes "V") (Tuple 2); bound = refl; category = refl; morphism = record { parts = 2; tuple = refl; first = omega arith; last = omega arith } }

-- two arguments are one too many
too_many : ArgumentsFit values (codes "V") (Obj ∷ []) (argument.Ref (ref (codes "a")) ∷ argument.Ref (ref (codes "a")) ∷ []) → ⊥
too_many h = h.1

-- a name that is not bound refers to nothing
unbound : RefersToObject values (codes "V") (ref (codes "c")) → ⊥
unbound h = let e : None ≡ Some h.value = h.bound in absurd (cc)

-- behind both, let i = V Identity a fits
here : Scope
here = record { over = category_over parts; values = values; own = 2 }

identity : Command ℕ ℕ
identity = Call (codes "i") (codes "V") (record { 0 = 1 }) (argument.Ref (ref (codes "a")) ∷ [])

identity_fits : CommandFits here identity
unfolding here identity
identity_fits = record { category = record { over = Vec 5; known = refl }; name = record { new = refl; room = omega arith }; operation = (omega arith, omega arith); arguments = fits }

-- finalise W does not: no category has the name
no_category : CommandFits {O = ℕ} {M = ℕ} here (Finalise (codes "W")) → ⊥
unfolding here
no_category h = let e : None ≡ Some h.over = h.known in absurd (cc)

-- nor does a command that binds a again
bound_already : IsNew here (codes "a") → ⊥
unfolding here
bound_already h = let e : Some (value (codes "a") (codes "V") Obj) ≡ None = h.new in absurd (cc)
