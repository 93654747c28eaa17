-- What the parts ask to register, one part after others.
use Rattle.std.proofs.Common.{◌≡◌, ℕ, ◌+◌, ◌<◌, ◌≤◌, Bool, true, false, cond, List, [], ◌∷◌, ◌++◌, Option, Some, None, length, map, take, get_or, refl, sym, ap, ◌∙◌, arith}
use Rattle.std.specs.Prelude.{◌==◌, if◌then◌else◌, unwrap_or, option_map, option_and_then, option_to_list}
use Rattle.std.specs.Option.{option_or}
use Rattle.std.specs.List.{filter_map, cons_option, range_with_len}
use Rattle.std.proofs.lemmas.List.{take_more, take_all, append-nil, ext_get_or}
use Rattle.std.proofs.lemmas.List.FromFn.{get_or-map-range_with_len, length-map-range_with_len}
use Rattle.std.proofs.lemmas.List.Elements.{filter_map-append}
use Rattle.std.proofs.lemmas.List.Folds.{find-append}
use Rattle.cap_names.specs.declared.identifiers.OpId.{OpId}
use Rattle.cap_ops.specs.declared.plans.Kind.{Kind}
use Rattle.cap_ops.specs.Offered.{offered_weight, offered_weights}
use Rattle.cap_check.specs.Unbuilt.{CheckedPart}
use Rattle.cap_registered.specs.Registrations.{first_for, weight_among, registration, before_final, registered_weight, registered_weights}
use Rattle.cap_registered.specs.Kept.{kept}

pub one_of : {Y : Type 0} (o : Option Y) → cons_option o [] ≡ option_to_list o
one_of None = refl
one_of (Some y) = refl

-- one more element
pub filter_map_more : {X Y : Type 0} (f : X → Option Y) (xs : List X) (i : ℕ) (x : X) → i < length xs → x ≡ get_or xs i x → filter_map f (take (i + 1) xs) ≡ filter_map f (take i xs) ++ option_to_list (f x)
filter_map_more f xs i x h e =
    ap (filter_map f) (take_more xs i x h)
    ∙ filter_map-append f (take i xs) (get_or xs i x ∷ [])
    ∙ ap (λ y. filter_map f (take i xs) ++ cons_option (f y) []) (sym e)
    ∙ ap (λ ys. filter_map f (take i xs) ++ ys) (one_of (f x))

-- the weight by the default and the first that asks
abbrev weight_by : Option (OpId × Option ℕ) → Option ℕ → Option ℕ
weight_by first default = option_and_then (λ d. option_map (λ ask. unwrap_or ask.1 d) first) default

by_more : (default : Option ℕ) (first : Option (OpId × Option ℕ)) (is : Bool) (ask : OpId × Option ℕ) → weight_by (option_or first (cond is (Some ask) None)) default ≡ (if is then kept (weight_by first default) default ask.1 else weight_by first default)
by_more None first true ask = refl
by_more None first false ask = refl
by_more (Some d) None true ask = refl
by_more (Some d) None false ask = refl
by_more (Some d) (Some a) true ask = refl
by_more (Some d) (Some a) false ask = refl

-- what is registered of an operation when another part asks
pub among_more : (kind : Kind) (asks : List (OpId × Option ℕ)) (ask : OpId × Option ℕ) (n : ℕ) → weight_among kind (asks ++ ask ∷ []) n ≡ (if ask.0.0 == n then kept (weight_among kind asks n) (offered_weight kind n) ask.1 else weight_among kind asks n)
among_more kind asks ask n =
    ap (λ first. weight_by first (offered_weight kind n)) (find-append (λ a. a.0.0 == n) asks (ask ∷ []))
    ∙ by_more (offered_weight kind n) (first_for n asks) (ask.0.0 == n) ask

-- nothing is registered where nobody asks
pub among_none : (kind : Kind) (n : ℕ) → weight_among kind [] n ≡ None
among_none kind n = elim (offered_weight kind n) as (λ o. weight_by None o ≡ None) [ None ↦ refl | Some d ↦ refl ]

-- the weights at the places of the operations are those of what the first parts ask
abbrev pub Follows : Kind → List ℕ → List CheckedPart → ℕ → List (Option ℕ) → Type 0
Follows kind name xs i weights = (k : ℕ) → k < 44 → get_or weights k None ≡ weight_among kind (filter_map (λ p. registration name p.node) (take i xs)) (k + 1)

pub follows_none : (kind : Kind) (name : List ℕ) (xs : List CheckedPart) (i : ℕ) (x : CheckedPart) (weights : List (Option ℕ)) → i < length xs → x ≡ get_or xs i x → registration name x.node ≡ None → Follows kind name xs i weights → Follows kind name xs (i + 1) weights
follows_none kind name xs i x weights h e none was =
    let f : CheckedPart → Option (OpId × Option ℕ) = λ p. registration name p.node in
    let asks : filter_map f (take (i + 1) xs) ≡ filter_map f (take i xs) =
    filter_map_more f xs i x h e ∙ ap (λ o. filter_map f (take i xs) ++ option_to_list o) none ∙ append-nil (filter_map f (take i xs)) in
    λ k inside. was k inside ∙ sym (ap (λ a. weight_among kind a (k + 1)) asks)

pub follows_some : (kind : Kind) (name : List ℕ) (xs : List CheckedPart) (i : ℕ) (x : CheckedPart) (ask : OpId × Option ℕ) (defaults old new : List (Option ℕ)) → i < length xs → x ≡ get_or xs i x → registration name x.node ≡ Some ask → defaults ≡ offered_weights kind
    → ((k : ℕ) → k < 44 → get_or new k None ≡ (if ask.0.0 == k + 1 then kept (get_or old k None) (get_or defaults k None) ask.1 else get_or old k None))
    → Follows kind name xs i old → Follows kind name xs (i + 1) new
follows_some kind name xs i x ask defaults old new h e some are step was =
    let f : CheckedPart → Option (OpId × Option ℕ) = λ p. registration name p.node in
    let before : List (OpId × Option ℕ) = filter_map f (take i xs) in
    let asks : filter_map f (take (i + 1) xs) ≡ before ++ ask ∷ [] =
    filter_map_more f xs i x h e ∙ ap (λ o. before ++ option_to_list o) some in
    λ k inside.
    let default : get_or defaults k None ≡ offered_weight kind (k + 1) =
    ap (λ ds. get_or ds k None) are ∙ get_or-map-range_with_len (offered_weight kind) 1 44 k (k + 1) None inside (omega arith) in
    step k inside
    ∙ ap (λ o. if ask.0.0 == k + 1 then kept o (get_or defaults k None) ask.1 else o) (was k inside)
    ∙ ap (λ d. if ask.0.0 == k + 1 then kept (weight_among kind before (k + 1)) d ask.1 else weight_among kind before (k + 1)) default
    ∙ sym (among_more kind before ask (k + 1))
    ∙ sym (ap (λ a. weight_among kind a (k + 1)) asks)

pub follows_all : (kind : Kind) (name : List ℕ) (parts xs : List CheckedPart) (i : ℕ) (weights : List (Option ℕ)) → length xs ≤ i → xs ≡ before_final name parts → length weights ≡ 44 → Follows kind name xs i weights → weights ≡ registered_weights kind name parts
unfolding registered_weights
follows_all kind name parts xs i weights past are long was =
    ext_get_or None weights (map (registered_weight kind name parts) (range_with_len 1 44)) (long ∙ sym (length-map-range_with_len (registered_weight kind name parts) 1 44))
    (λ k h.
    let inside : k < 44 = omega (arith, long) in
    was k inside
    ∙ ap (λ ys. weight_among kind (filter_map (λ p. registration name p.node) ys) (k + 1)) (take_all i xs past ∙ are)
    ∙ sym (get_or-map-range_with_len (registered_weight kind name parts) 1 44 k (k + 1) None inside (omega arith)))
