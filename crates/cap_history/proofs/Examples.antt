-- What small histories say.
use Rattle.std.proofs.Common.{◌≡◌, ℕ, List, [], ◌∷◌, Some, None, refl}
use Rattle.std.specs.Prelude.{codes}
use Rattle.cap_names.specs.declared.identifiers.Handle.{Handle}
use Rattle.cap_names.specs.declared.identifiers.OpId.{OpId}
use Rattle.cap_ops.specs.declared.keys.Out.TheVariants.{Nothing as OutNothing}
use Rattle.cap_ops.specs.declared.keys.Value.TheVariants.{Nothing}
use Rattle.cap_history.specs.declared.entries.Event.{Event}
use Rattle.cap_history.specs.declared.entries.Event.TheVariants.{Register, Declare, Put}
use Rattle.cap_history.specs.declared.entries.Reply.{Reply}
use Rattle.cap_history.specs.declared.entries.Reply.TheVariants.{Done, Object, Kept}
use Rattle.cap_history.specs.declared.entries.Entry.{Entry}
use Rattle.cap_ops.specs.Mentions.{distinct}
use Rattle.cap_history.specs.Reading.{weight_at, weights, objects, cells}

abbrev at : ℕ → Handle
at n = record { 0 = n }

abbrev op : ℕ → OpId
op n = record { 0 = n }

abbrev by : ℕ → Event ℕ ℕ → Reply ℕ ℕ → Entry ℕ ℕ
by s e r = record { session = record { 0 = s }; event = e; reply = r }

-- two sessions declare objects; the name that is declared again brings none, and what is kept brings its new ones
abbrev some : List (Entry ℕ ℕ)
some =
    by 0 (Register (op 16) 20) Done ∷ by 1 (Declare (codes "a") 5) (Object (at 0)) ∷ by 2 (Declare (codes "b") 7) (Object (at 1)) ∷ by 2 (Declare (codes "a") 5) (Object (at 0))
    ∷ by 1 (Put (record { op = op 16; args = [] }) (record { fresh = 9 ∷ []; out = OutNothing })) (Kept (record { value = Nothing; objects = [] })) ∷ []

objects_of_some : objects some ≡ 5 ∷ 7 ∷ 9 ∷ []
objects_of_some = refl

weight_of_some : weight_at (weights some) (op 16) ≡ Some 20
weight_of_some = refl

none_of_some : weight_at (weights some) (op 18) ≡ None
none_of_some = refl

-- an object of n counts n cells here
cells_of_some : cells (λ n. n) (λ n. n) some ≡ 26
cells_of_some = refl

distinct_once : distinct (at 3 ∷ at 1 ∷ at 3 ∷ []) ≡ at 3 ∷ at 1 ∷ []
distinct_once = refl
