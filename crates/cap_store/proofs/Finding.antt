-- Looking through lists, one element after another.
use Rattle.std.proofs.Common.{◌≡◌, ℕ, zero, suc, ◌+◌, ◌<◌, ◌≤◌, Bool, true, false, List, [], ◌∷◌, length, take, map, Some, sym, subst, ◌∙◌, ap, refl, arith, inl, inr}
use Rattle.std.specs.Prelude.{◌&&◌, nat_eq}
use Rattle.std.specs.Cmp.Lexicographic.{pointwise}
use Rattle.std.proofs.lemmas.Bool.{eq-eqb}
use Rattle.std.specs.List.{Contains, slice_index_or}
use Rattle.std.proofs.lemmas.List.{take_more}
use Rattle.std.proofs.lemmas.List.Elements.{Contains-push_cases, All-contains, All-nil}
use Rattle.std.proofs.lemmas.Option.{slice_get-get_or}
use Rattle.std.proofs.lemmas.List.{length-map}
use Rattle.cap_names.specs.declared.identifiers.Handle.{Handle}
use Rattle.cap_ops.specs.Cells.{IsShortAnswer}
use Rattle.cap_ops.specs.Mentions.{mentioned}
use Rattle.cap_ops.proofs.Short.{few-mentioned}
use Rattle.std.specs.Prelude.{slice_get}
use Rattle.cap_ops.specs.declared.keys.Key.{Key}
use Rattle.cap_ops.specs.declared.keys.Value.{Value as Answer}
use Rattle.cap_history.specs.declared.reading.Keeping.{Keeping}
use Rattle.cap_history.specs.declared.reading.Naming.{Naming}
use Rattle.cap_store.specs.Lookups.{HasNoValue, HasNoName}

pub none-in : {A : Type 0} (x : A) → Contains [] x → ⊥
none-in x h = All-contains (λ _. ⊥) [] x (All-nil (λ _. ⊥)) h

pub take-all : {A : Type 0} (es : List A) (i : ℕ) → length es ≤ i → take i es ≡ es
take-all [] zero le = refl
take-all [] (suc i) le = refl
take-all (e ∷ es) zero le = absurd (omega (arith, le))
take-all (e ∷ es) (suc i) le = ap (λ fs. e ∷ fs) (take-all es i (omega (arith, le)))

module _ {M : Type 0} (key : Key M) where
  pub no-more : (cache : List (Keeping M)) (i : ℕ) (k : Keeping M) → i < length cache → slice_index_or cache i k ≡ k → HasNoValue (take i cache) key → (k.key ≡ key → ⊥) → HasNoValue (take (i + 1) cache) key
  no-more cache i k lt is none differs v h = elim (Contains-push_cases (take i cache) (slice_index_or cache i k) (record { key = key; value = v }) (subst (λ ks. Contains ks (record { key = key; value = v })) (take_more cache i k lt) h)) [
    | inl old ↦ none v old
    | inr same ↦ differs (ap (λ x. x.key) (sym is ∙ same))
  ]

pub no-value : {M : Type 0} (key : Key M) (cache : List (Keeping M)) (i : ℕ) → length cache ≤ i → HasNoValue (take i cache) key → HasNoValue cache key
no-value key cache i le n = subst (λ ks. HasNoValue ks key) (take-all cache i le) n

pub no-name : (name : List ℕ) (names : List Naming) (i : ℕ) → length names ≤ i → HasNoName (take i names) name → HasNoName names name
no-name name names i le n = subst (λ ks. HasNoName ks name) (take-all names i le) n

pub no-more-names : (name : List ℕ) (names : List Naming) (i : ℕ) (k : Naming) → i < length names → slice_index_or names i k ≡ k → HasNoName (take i names) name → (k.name ≡ name → ⊥) → HasNoName (take (i + 1) names) name
no-more-names name names i k lt is none differs h e = elim (Contains-push_cases (take i names) (slice_index_or names i k) (record { name = name; handle = h }) (subst (λ ks. Contains ks (record { name = name; handle = h })) (take_more names i k lt) e)) [
  | inl old ↦ none h old
  | inr same ↦ differs (ap (λ x. x.name) (sym is ∙ same))
]

-- a test that fails tells that its fact is false
pub not-by : (b : Bool) (P : Type 0) → (P → b ≡ true) → b ≡ false → P → ⊥
not-by b P holds fails p = let t : b ≡ true = holds p in let g : true ≡ false = sym t ∙ fails in absurd cc

same-bytes : (xs : List ℕ) → pointwise nat_eq xs xs ≡ true
same-bytes [] = refl
same-bytes (x ∷ xs) = ap (λ a. a && pointwise nat_eq xs xs) (eq-eqb x x refl) ∙ same-bytes xs

-- names that are tested as different differ
pub differs-by : (b : Bool) (there k : Naming) (name : List ℕ) → k ≡ there → b ≡ pointwise nat_eq there.name name → b ≡ false → k.name ≡ name → ⊥
differs-by b there k name is tested fails e =
    let t : b ≡ true = tested ∙ (ap (λ w. pointwise nat_eq w name) (ap (λ x. x.name) (sym is) ∙ e) ∙ same-bytes name) in
    let g : true ≡ false = sym t ∙ fails in absurd cc

-- an element that is found at a place
pub get-by : {A : Type 0} (xs : List A) (i : ℕ) (x y : A) → i < length xs → x ≡ slice_index_or xs i x → y ≡ x → slice_get xs i ≡ Some y
get-by xs i x y lt is same = subst (λ z. slice_get xs i ≡ Some z) (sym is ∙ sym same) (slice_get-get_or xs i x lt)

-- a value's objects are few
pub short-told : {O M : Type 0} (v : Answer M) → IsShortAnswer v → (objects told : List (Handle × O)) (hs handles : List Handle) → objects ≡ told → map (λ x. x.0) told ≡ hs → hs ≡ handles → handles ≡ mentioned v → length objects ≤ 8
short-told {O = O} v short objects told hs handles e f k l =
    let few = few-mentioned v short in
    let same = ap length (f ∙ (k ∙ l)) in
    let mapped = length-map told (λ (x : Handle × O). x.0) in
    let all = ap length e in
    omega (arith, few, same, mapped, all)
