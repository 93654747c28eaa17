-- Data behind references, and the objects of a history by its number.
use Rattle.std.proofs.Common.{◌≡◌, ℕ, ◌<◌, ◌≤◌, ◌⊎◌, inl, inr, List, [], Option, Some, None, length, get_or, map, ap, sym, ◌∙◌, refl, arith}
use Rattle.std.specs.Prelude.{option_map, slice_get}
use Rattle.std.proofs.lemmas.Option.{slice_get-map, slice_get_read, slice_get_cases}
use Rattle.cap_data.specs.declared.data.ObjData.{ObjData}
use Rattle.cap_data.specs.declared.data.MorData.{MorData}
use Rattle.cap_history.specs.Reading.{objects}
use Rattle.cap_report.specs.declared.report.History.{History}
use Rattle.cap_report.specs.Histories.{entries_or_none, history_of}

pub told_some : {A B : Type 0} (v : A → B) (xs : List A) (i : ℕ) (x : A) → slice_get xs i ≡ Some x → slice_get (map v xs) i ≡ Some (v x)
told_some v xs i x e = slice_get-map v xs i ∙ ap (option_map v) e

pub told_none : {A B : Type 0} (v : A → B) (xs : List A) (i : ℕ) → slice_get xs i ≡ None → slice_get (map v xs) i ≡ None
told_none v xs i e = slice_get-map v xs i ∙ ap (option_map v) e

past : {A : Type 0} (o : Option A) (n i : ℕ) → n ≤ i → ((x : A) × (i < n) × (o ≡ Some x)) ⊎ (o ≡ None) → o ≡ None
past o n i h (inl w) = absurd (omega (arith, w.1))
past o n i h (inr e) = e

none_past : {A : Type 0} (xs : List A) (i : ℕ) → length xs ≤ i → slice_get xs i ≡ None
none_past xs i h = past (slice_get xs i) (length xs) i h (elim (slice_get_cases xs i).1 [ inl w ↦ inl (w.0, w.1, w.2) | inr w ↦ inr w.1 ])

-- the objects of a history that may not be there
some_objects : (o : Option (History ObjData MorData)) (found : List ObjData) → Some found ≡ option_map (λ history. objects history.entries) o → found ≡ objects (entries_or_none o)
some_objects None found e = cc
some_objects (Some h) found e = cc

no_objects : (o : Option (History ObjData MorData)) → None ≡ option_map (λ history. objects history.entries) o → [] ≡ objects (entries_or_none o)
no_objects None e = refl
no_objects (Some h) e = cc

module _ {L : Type 0} (v : L → List ObjData) (xs : List L) (all : List (History ObjData MorData)) (same : map v xs ≡ map (λ history. objects history.entries) all) (n : ℕ) where
  at_place : option_map v (slice_get xs n) ≡ option_map (λ history. objects history.entries) (slice_get all n)
  at_place = sym (slice_get-map v xs n) ∙ ap (λ l. slice_get l n) same ∙ slice_get-map (λ history. objects history.entries) all n

  pub objects_found : (x : L) → n < length xs → x ≡ get_or xs n x → v x ≡ objects (history_of all n)
  objects_found x inside is = some_objects (slice_get all n) (v x) (ap (option_map v) (sym (slice_get_read xs (length xs) n x refl inside is)) ∙ at_place)

  pub objects_absent : length xs ≤ n → [] ≡ objects (history_of all n)
  objects_absent past = no_objects (slice_get all n) (ap (option_map v) (sym (none_past xs n past)) ∙ at_place)
