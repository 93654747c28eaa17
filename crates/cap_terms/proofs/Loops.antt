-- The loop that binds the arguments of a call, place by place.
use Rattle.std.proofs.Common.{◌≡◌, ℕ, zero, suc, ◌+◌, ◌<◌, ◌≤◌, Bool, true, false, List, [], ◌∷◌, ◌++◌, length, take, drop, get_or, refl, sym, ap, ◌∙◌, arith, ◌⊎◌, inl, inr, length-append, length-take, drop-cons, add-one}
use Rattle.std.specs.Prelude.{Option, Some, None, option_and_then, option_map, slice_get, map, if◌then◌else◌}
use Rattle.std.proofs.lemmas.Option.{slice_get_cases, get_or_from_slice_get, slice_get_within}
use Rattle.std.proofs.lemmas.List.{map_more, length-map}
use Rattle.cap_ops.specs.declared.ends.Shape.{Shape}
use Rattle.cap_ops.specs.Ends.{IsOperation, padded, profile_of, renamed}
use Rattle.cap_ops.proofs.Letters.{few_letters}
use Rattle.cap_ops.proofs.Padded.{padded-at}
use Rattle.cap_ops.proofs.Places.{none≢some, some_inner, slice_get-there}
use Rattle.cap_terms.specs.declared.body.Var.{Var}
use Rattle.cap_terms.specs.declared.body.Step.{Step}
use Rattle.cap_terms.specs.declared.symbol.Symbol.{Symbol}
use Rattle.cap_terms.specs.declared.symbol.Symbol.TheVariants.{Given, Made}
use Rattle.cap_terms.specs.Checker.{Bindings, no_bindings, bound_shape, bound_args, object_in, call_shape, is_operation, given_shapes, step_shape, fault_unless, steps_fault}
use Rattle.cap_terms.specs.Nameable.{nameable}
use Rattle.cap_terms.proofs.Calls.{is_operation-true}
use Rattle.cap_terms.proofs.Taken.{nameable_is, take-enough, take-push-taken}

-- a place of the arguments, whose variable may be unknown, or whose shape may be refused
pub args-unknown : (full : List (Shape Symbol)) (b : Bindings) (ss : List (Shape ℕ)) (xs : List Var) (i : ℕ) (d : Var) → i < length xs → length ss ≡ length xs → None ≡ slice_get full (get_or xs i d).0 → bound_args full b (drop i ss) (drop i xs) ≡ None
args-unknown full b [] [] i d inside many h = absurd (omega arith)
args-unknown full b [] (x ∷ xs) i d inside many h = absurd (omega arith)
args-unknown full b (s ∷ ss) [] i d inside many h = absurd (omega arith)
args-unknown full b (s ∷ ss) (x ∷ xs) zero d inside many h = rw (← h) refl
args-unknown full b (s ∷ ss) (x ∷ xs) (suc i) d inside many h = args-unknown full b ss xs i d (omega arith) (omega arith) h

pub args-refused : (full : List (Shape Symbol)) (b : Bindings) (ss : List (Shape ℕ)) (xs : List Var) (i : ℕ) (d : Var) (s : Shape ℕ) (t : Shape Symbol) → slice_get ss i ≡ Some s → length ss ≡ length xs → Some t ≡ slice_get full (get_or xs i d).0 → None ≡ bound_shape b s t
    → bound_args full b (drop i ss) (drop i xs) ≡ None
args-refused full b [] xs i d s t at many h no_shape = absurd (none≢some at)
args-refused full b (r ∷ ss) [] i d s t at many h no_shape = absurd (omega arith)
args-refused full b (r ∷ ss) (x ∷ xs) zero d s t at many h no_shape = rw (← h, some_inner at, ← no_shape) refl
args-refused full b (r ∷ ss) (x ∷ xs) (suc i) d s t at many h no_shape = args-refused full b ss xs i d s t at (omega arith) h no_shape

pub place-there : (places : List (Option (Shape ℕ))) (ss : List (Shape ℕ)) (i : ℕ) → places ≡ padded ss → i < 4 → slice_get ss i ≡ get_or places i None
place-there places ss i is low = sym (ap (λ ps. get_or ps i None) is ∙ padded-at ss i low)

pub place-missing : (places : List (Option (Shape ℕ))) (ss : List (Shape ℕ)) (i : ℕ) → places ≡ padded ss → i < 4 → i < length ss → get_or places i None ≡ None → ⊥
place-missing places ss i is low inside e = none≢some (sym (place-there places ss i is low ∙ e) ∙ (slice_get-there ss i inside).1)

-- calls of what is no operation, or with a wrong number of arguments
args-many : (full : List (Shape Symbol)) (b : Bindings) (ss : List (Shape ℕ)) (xs : List Var) → (length ss ≡ length xs → ⊥) → bound_args full b ss xs ≡ None
args-many full b [] [] differ = absurd (differ refl)
args-many full b [] (x ∷ xs) differ = refl
args-many full b (s ∷ ss) [] differ = refl
args-many full b (s ∷ ss) (x ∷ xs) differ = go (slice_get full x.0) (λ c. args-many full c ss xs (λ e. differ (ap suc e)))
  where
    go : (o : Option (Shape Symbol)) → ((c : Bindings) → bound_args full c ss xs ≡ None) → option_and_then (λ t. option_and_then (λ c. bound_args full c ss xs) (bound_shape b s t)) o ≡ None
    go None rest = refl
    go (Some t) rest = next (bound_shape b s t)
      where
        next : (o : Option Bindings) → option_and_then (λ c. bound_args full c ss xs) o ≡ None
        next None = refl
        next (Some c) = rest c

pub no-operation : (full : List (Shape Symbol)) (k op : ℕ) (xs : List Var) → (IsOperation op → ⊥) → None ≡ call_shape full k op xs
no-operation full k op xs never = go (is_operation op) refl
  where
    go : (t : Bool) → is_operation op ≡ t → None ≡ (if t then option_map (λ b. renamed (object_in (Made k) b) (profile_of op).answer) (bound_args full no_bindings (profile_of op).arguments xs) else None)
    go true e = absurd (never (is_operation-true op e))
    go false e = refl

pub wrong-number : (full : List (Shape Symbol)) (k op : ℕ) (xs : List Var) → (length (profile_of op).arguments ≡ length xs → ⊥) → None ≡ call_shape full k op xs
wrong-number full k op xs differ = rw (args-many full no_bindings (profile_of op).arguments xs differ) (go (is_operation op))
  where
    go : (t : Bool) → ◌≡◌ {A = Option (Shape Symbol)} None (if t then None else None)
    go true = refl
    go false = refl

-- the parameters of a head, place by place
place-empty : {X : Type 0} (ss : List X) (i : ℕ) → slice_get ss i ≡ None → take (i + 1) ss ≡ take i ss
place-empty {X} ss i e = go (slice_get_cases ss i).1
  where
    go : ((x : X) × (i < length ss) × (slice_get ss i ≡ Some x) × (get_or ss i x ≡ x)) ⊎ ((length ss ≤ i) × (slice_get ss i ≡ None)) → take (i + 1) ss ≡ take i ss
    go (inl h) = absurd (none≢some (sym e ∙ h.2))
    go (inr h) = let long = h.0 in take-enough (i + 1) ss (omega arith) ∙ sym (take-enough i ss long)

pub parameters-none : (places : List (Option (Shape ℕ))) (ss : List (Shape ℕ)) (i : ℕ) (known : List (Shape Symbol)) → places ≡ padded ss → i < 4 → get_or places i None ≡ None → known ≡ map (renamed Given) (take i ss) → known ≡ map (renamed Given) (take (i + 1) ss)
parameters-none places ss i known is low at e = e ∙ ap (map (renamed Given)) (sym (place-empty ss i (place-there places ss i is low ∙ at)))

pub parameters-more : (places : List (Option (Shape ℕ))) (ss : List (Shape ℕ)) (i : ℕ) (known next : List (Shape Symbol)) (s : Shape ℕ) (t : Shape Symbol) → places ≡ padded ss → i < 4 → length ss ≤ 4 → get_or places i None ≡ Some s → t ≡ renamed Given s
    → next ≡ take nameable (known ++ t ∷ []) → known ≡ map (renamed Given) (take i ss) → next ≡ map (renamed Given) (take (i + 1) ss)
parameters-more places ss i known next s t is low few at tis pushed e =
    let there : slice_get ss i ≡ Some s = place-there places ss i is low ∙ at in
    let inside : i < length ss = slice_get_within ss i s there in
    let short : length known ≤ 4 = omega (arith, ap length e, length-map (take i ss) (renamed Given), length-take i ss) in
    let whole : take nameable (known ++ t ∷ []) ≡ known ++ t ∷ [] = rw nameable_is (take-enough 256 (known ++ t ∷ []) (omega (arith, length-append known (t ∷ [])))) in
    let step : map (renamed Given) (take (i + 1) ss) ≡ map (renamed Given) (take i ss) ++ renamed Given (get_or ss i s) ∷ [] = map_more (renamed Given) ss i s inside in
    let last : get_or ss i s ≡ s = get_or_from_slice_get ss i s s there in
    rw (pushed, whole, step, last, e, tis) refl

-- the shapes of a head's parameters are few
pub parameters-all : (ss : List (Shape ℕ)) (i : ℕ) (known : List (Shape Symbol)) → 4 ≤ i → length ss ≤ 4 → known ≡ map (renamed Given) (take i ss) → known ≡ map (renamed Given) ss
parameters-all ss i known high few e = e ∙ ap (map (renamed Given)) (take-enough i ss (omega arith))

pub parameters-nameable : (head : ℕ) (known : List (Shape Symbol)) → known ≡ given_shapes head → known ≡ take nameable (given_shapes head)
parameters-nameable head known e = e ∙ sym (rw nameable_is (take-enough 256 (given_shapes head) (omega (arith, (few_letters head).2, length-map (profile_of head).arguments (renamed Given)))))

-- a step whose shape is found
pub known-next : (full known next : List (Shape Symbol)) (t : Shape Symbol) → known ≡ take nameable full → next ≡ take nameable (known ++ t ∷ []) → next ≡ take nameable (full ++ t ∷ [])
known-next full known next t is pushed = pushed ∙ ap (λ xs. take nameable (xs ++ t ∷ [])) is ∙ take-push-taken nameable full t

pub steps-next : (full : List (Shape Symbol)) (head params : ℕ) (answer : Var) (k : ℕ) (ss : List Step) (s : Step) (t : Shape Symbol) → k < length ss → s ≡ get_or ss k s → Some t ≡ step_shape full k s
    → steps_fault full head params answer k (drop k ss) ≡ steps_fault (full ++ t ∷ []) head params answer (k + 1) (drop (k + 1) ss)
steps-next full head params answer k ss s t inside at found =
    ap (steps_fault full head params answer k) (drop-cons ss k s inside ∙ ap (λ r. r ∷ drop (suc k) ss) (sym at))
    ∙ ap (fault_unless k (λ u. steps_fault (full ++ u ∷ []) head params answer (k + 1) (drop (suc k) ss))) (sym found)
    ∙ ap (λ j. steps_fault (full ++ t ∷ []) head params answer (k + 1) (drop j ss)) (sym (add-one k))
