-- The values of a body's variables as values by handles, and what a step that calls nothing makes of them.
use Rattle.std.specs.Prelude.{◌≡◌, List, [], ◌∷◌, map, length, ◌⊎◌}
use Rattle.cap_names.specs.declared.identifiers.Handle.{Handle}
use Rattle.cap_ops.specs.declared.arrows.Arrow.{Arrow}
use Rattle.cap_ops.specs.Values.{Value, object, morphism, two, four, truth, scalar, none, Setting}
use Rattle.cap_ops.specs.Arrows.{ValueOver, between}
use Rattle.cap_terms.specs.declared.body.Step.{Step}
use Rattle.cap_terms.specs.declared.body.Step.TheVariants.{Call, Src, Tgt, Part, MinusOne, Exists, Both, When, Tuple}
use Rattle.cap_terms.specs.Run.{at, all_at, source_of, target_of, part_of, exists_of, both_of, when_of, tuple_of}
use Rattle.cap_steps.specs.declared.slots.Slot.{Slot}
use Rattle.cap_steps.specs.declared.slots.Slot.TheVariants.{Object, Morphism, Two, Four, Truth, Scalar, Nothing}

abbrev pub slot_value : {M : Type 0} → Slot M → ValueOver Handle M
slot_value (Object h) = object h
slot_value (Morphism f) = morphism (between f)
slot_value (Two p q) = two (between p) (between q)
slot_value (Four p q r s) = four (between p) (between q) (between r) (between s)
slot_value (Truth b) = truth b
slot_value (Scalar n) = scalar n
slot_value Nothing = none

abbrev pub slots : {M : Type 0} → List (Slot M) → List (ValueOver Handle M)
slots env = map slot_value env

-- an object, a morphism or a scalar
abbrev pub IsArgument : {Obj Mor : Type 0} → Value Obj Mor → Type 0
IsArgument (object a) = Unit {0}
IsArgument (morphism f) = Unit {0}
IsArgument (scalar n) = Unit {0}
IsArgument _ = ⊥

abbrev pub AreArguments : {Obj Mor : Type 0} → List (Value Obj Mor) → Type 0
AreArguments [] = Unit {0}
AreArguments (v ∷ vs) = IsArgument v × AreArguments vs

-- what is neither an object nor a scalar
abbrev pub IsAnswer : {Obj Mor : Type 0} → Value Obj Mor → Type 0
IsAnswer (object a) = ⊥
IsAnswer (scalar n) = ⊥
IsAnswer _ = Unit {0}

-- two or four morphisms
abbrev pub IsTuple : {M : Type 0} → List (Arrow M) → Type 0
IsTuple fs = (length fs ≡ 2) ⊎ (length fs ≡ 4)

-- what a step that calls nothing answers
abbrev pub plain : {Obj Mor : Type 0} → Setting Obj Mor → Step → List (Value Obj Mor) → Value Obj Mor
plain S (Call op xs) values = none
plain S (Src x) values = source_of S (at values x)
plain S (Tgt x) values = target_of S (at values x)
plain S (Part x n) values = part_of (at values x) n
plain S MinusOne values = scalar S.minus_one
plain S (Exists x) values = exists_of (at values x)
plain S (Both x y) values = both_of (at values x) (at values y)
plain S (When x y) values = when_of (at values x) (at values y)
plain S (Tuple xs) values = tuple_of (all_at values xs)
