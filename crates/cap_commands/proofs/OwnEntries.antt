-- Entries put behind events one by one.
use Rattle.std.proofs.Common.{◌≡◌, List, [], ◌∷◌, ◌++◌, map, reverse, Option, Some, None, refl, sym, ap, ◌∙◌, append_assoc}
use Rattle.std.specs.Prelude.{option_to_list}
use Rattle.std.specs.List.{filter_map, cons_option}
use Rattle.std.proofs.lemmas.List.{append-nil, reverse-append, reverse-reverse}
use Rattle.cap_names.specs.declared.identifiers.CatNo.{CatNo}
use Rattle.cap_data.specs.declared.data.ObjData.{ObjData}
use Rattle.cap_data.specs.declared.data.MorData.{MorData}
use Rattle.cap_seat.specs.declared.tries.Try.{Try}
use Rattle.cap_seat.specs.declared.tries.Try.TheVariants.{Entered, Full}
use Rattle.cap_seat.specs.Events.{entered}
use Rattle.cap_commands.specs.Seats.{OfData, with_number}

abbrev OfTries : Type 0
OfTries = List (Try ObjData MorData)

-- events, and those of the tries that are left, the first of them last
abbrev pub with_left : CatNo → List (CatNo × OfData) → OfTries → List (CatNo × OfData)
with_left number events left = events ++ with_number number (filter_map entered (reverse left))

last-first : (left : OfTries) (t : Try ObjData MorData) → reverse (left ++ t ∷ []) ≡ t ∷ reverse left
last-first left t = reverse-append left (t ∷ [])

pub with_entered : (number : CatNo) (events : List (CatNo × OfData)) (left : OfTries) (e : OfData) → with_left number (events ++ (number, e) ∷ []) left ≡ with_left number events (left ++ Entered e ∷ [])
with_entered number events left e =
    append_assoc events ((number, e) ∷ []) (with_number number (filter_map entered (reverse left))) ∙ ap (λ ts. events ++ with_number number (filter_map entered ts)) (sym (last-first left (Entered e)))

pub with_full : (number : CatNo) (events : List (CatNo × OfData)) (left : OfTries) (t : Try ObjData MorData) → entered t ≡ None → with_left number events left ≡ with_left number events (left ++ t ∷ [])
with_full number events left t none =
    ap (λ (o : Option OfData). events ++ with_number number (cons_option o (filter_map entered (reverse left)))) (sym none) ∙ ap (λ ts. events ++ with_number number (filter_map entered ts)) (sym (last-first left t))

-- at first all are left
pub reversed_twice : (number : CatNo) (events : List (CatNo × OfData)) (tries : OfTries) → with_left number events (reverse tries) ≡ events ++ with_number number (filter_map entered tries)
reversed_twice number events tries = ap (λ ts. events ++ with_number number (filter_map entered ts)) (reverse-reverse tries)

pub none_left : (number : CatNo) (events : List (CatNo × OfData)) → with_left number events [] ≡ events
none_left number events = append-nil events
