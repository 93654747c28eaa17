-- Variables among slots.
use Rattle.std.proofs.Common.{◌≡◌, ℕ, zero, suc, ◌+◌, ◌<◌, ◌≤◌, Bool, false, List, [], ◌∷◌, length, drop, get_or, refl, sym, ◌∙◌, arith}
use Rattle.std.proofs.Math.ListN.{drop_of_length-le}
use Rattle.std.proofs.lemmas.List.{length-map}
use Rattle.std.specs.Prelude.{Option, Some, None, slice_get, unwrap_or, ◌||◌}
use Rattle.cap_names.specs.declared.identifiers.Handle.{Handle}
use Rattle.cap_ops.specs.Values.{Value, morphism, none}
use Rattle.cap_ops.specs.Arrows.{ValueOver}
use Rattle.cap_terms.specs.declared.body.Var.{Var}
use Rattle.cap_terms.specs.Run.{at, all_at, is_none, has_none, part_of, tuple_of}
use Rattle.cap_steps.specs.declared.slots.Slot.{Slot}
use Rattle.cap_steps.specs.Slots.{slot_value, slots, IsArgument, AreArguments}

abbrev pub value_or_none : {M : Type 0} → Option (Slot M) → ValueOver Handle M
value_or_none None = none
value_or_none (Some s) = slot_value s

slot_get : {M : Type 0} (env : List (Slot M)) (i : ℕ) → unwrap_or (slice_get (slots env) i) none ≡ value_or_none (slice_get env i)
slot_get [] i = refl
slot_get (s ∷ env) zero = refl
slot_get (s ∷ env) (suc i) = slot_get env i

pub at_slots : {M : Type 0} (env : List (Slot M)) (x : Var) → at (slots env) x ≡ value_or_none (slice_get env x.0)
at_slots env x = slot_get env x.0

pub part_none : {Obj Mor : Type 0} (n : ℕ) → part_of {Obj = Obj} {Mor = Mor} none n ≡ none
part_none zero = refl
part_none (suc n) = refl

pub tuple-none : {Obj Mor : Type 0} (vs : List (Value Obj Mor)) → (length vs ≡ 2 → ⊥) → (length vs ≡ 4 → ⊥) → tuple_of vs ≡ none
tuple-none (morphism p ∷ morphism q ∷ []) two four = absurd (two refl)
tuple-none (morphism p ∷ morphism q ∷ morphism r ∷ morphism s ∷ []) two four = absurd (four refl)
tuple-none _ two four = refl

pub no_tuple : {Obj Mor : Type 0} (vs : List (Value Obj Mor)) (xs : List Var) → (length xs ≡ 2 → ⊥) → (length xs ≡ 4 → ⊥) → none ≡ tuple_of (all_at vs xs)
no_tuple vs xs two four = let e = length-map xs (at vs) in sym (tuple-none (all_at vs xs) (λ h. two (sym e ∙ h)) (λ h. four (sym e ∙ h)))

-- lists of two and of four by their elements
pub pair_of : {Obj Mor : Type 0} (vs : List (Value Obj Mor)) (xs : List Var) (d : Var) → length xs ≡ 2 → tuple_of (at vs (get_or xs 0 d) ∷ at vs (get_or xs 1 d) ∷ []) ≡ tuple_of (all_at vs xs)
pair_of vs (x ∷ y ∷ []) d long = refl
pair_of vs [] d long = absurd (omega (arith, long))
pair_of vs (x ∷ []) d long = absurd (omega (arith, long))
pair_of vs (x ∷ y ∷ z ∷ xs) d long = absurd (omega (arith, long))

pub quadruple_of : {Obj Mor : Type 0} (vs : List (Value Obj Mor)) (xs : List Var) (d : Var) → length xs ≡ 4 → tuple_of (at vs (get_or xs 0 d) ∷ at vs (get_or xs 1 d) ∷ at vs (get_or xs 2 d) ∷ at vs (get_or xs 3 d) ∷ []) ≡ tuple_of (all_at vs xs)
quadruple_of vs (x ∷ y ∷ z ∷ w ∷ []) d long = refl
quadruple_of vs [] d long = absurd (omega (arith, long))
quadruple_of vs (x ∷ []) d long = absurd (omega (arith, long))
quadruple_of vs (x ∷ y ∷ []) d long = absurd (omega (arith, long))
quadruple_of vs (x ∷ y ∷ z ∷ []) d long = absurd (omega (arith, long))
quadruple_of vs (x ∷ y ∷ z ∷ w ∷ u ∷ xs) d long = absurd (omega (arith, long))

pub none-rest : {Obj Mor : Type 0} (vs : List (Value Obj Mor)) (xs : List Var) (i : ℕ) (d : Var) (b : Bool) → i < length xs → is_none (at vs (get_or xs i d)) ≡ b → has_none (all_at vs (drop i xs)) ≡ (b || has_none (all_at vs (drop (i + 1) xs)))
none-rest vs [] i d b inside e = absurd (omega arith)
none-rest vs (x ∷ xs) zero d b inside e = rw e refl
none-rest vs (x ∷ xs) (suc i) d b inside e = let k : suc i + 1 ≡ suc (i + 1) = omega arith in rw k (none-rest vs xs i d b (omega arith) e)

pub none-after : {Obj Mor : Type 0} (vs : List (Value Obj Mor)) (xs : List Var) (i : ℕ) → length xs ≤ i → has_none (all_at vs (drop i xs)) ≡ false
none-after vs xs i past = rw (drop_of_length-le xs past) refl

pub are-argument : {Obj Mor : Type 0} (vs : List (Value Obj Mor)) (xs : List Var) (i : ℕ) (d : Var) → AreArguments (all_at vs xs) → i < length xs → IsArgument (at vs (get_or xs i d))
are-argument vs [] i d all inside = absurd (omega arith)
are-argument vs (x ∷ xs) zero d all inside = all.0
are-argument vs (x ∷ xs) (suc i) d all inside = are-argument vs xs i d all.1 (omega arith)
