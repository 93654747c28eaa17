-- How `check_term` decides: the shape that each step must have, given those of the variables before it. `proofs/` shows that these are the typed steps.
use Rattle.std.specs.Prelude.{ℕ, ◌+◌, Bool, false, ◌&&◌, ◌==◌, nat_le, if◌then◌else◌, List, [], ◌∷◌, ◌++◌, Option, Some, None, option_and_then, option_map, is_some, slice_get, slice_set, map, length, take}
use Rattle.cap_ops.specs.declared.ends.Ends.{Ends}
use Rattle.cap_ops.specs.declared.ends.Shape.{Shape}
use Rattle.cap_ops.specs.declared.ends.Shape.TheVariants.{Object, Morphism, Two, Four, Truth, Scalar}
use Rattle.cap_ops.specs.Ends.{profile_of, renamed}
use Rattle.cap_terms.specs.declared.body.Var.{Var}
use Rattle.cap_terms.specs.declared.body.Step.{Step}
use Rattle.cap_terms.specs.declared.body.Step.TheVariants.{Call, Src, Tgt, Part, MinusOne, Exists, Both, When, Tuple}
use Rattle.cap_terms.specs.declared.body.Body.{Body}
use Rattle.cap_terms.specs.declared.symbol.Symbol.{Symbol}
use Rattle.cap_terms.specs.declared.symbol.Symbol.TheVariants.{Given, Made}
use Rattle.cap_terms.specs.Run.{nth_from_one}
use Rattle.cap_terms.specs.Typing.{parts_of}

-- the objects that the letters 0 to 4 stand for, as far as they are known
abbrev pub Bindings : Type 0
Bindings = List (Option Symbol)

abbrev pub no_bindings : Bindings
no_bindings = None ∷ None ∷ None ∷ None ∷ None ∷ []

abbrev pub is_same : Symbol → Symbol → Bool
is_same (Given a) (Given b) = a == b
is_same (Made k a) (Made j b) = (k == j) && (a == b)
is_same _ _ = false

-- the letter stands for the object too
abbrev pub bound_at : Bindings → ℕ → Symbol → Option (Option Symbol) → Option Bindings
bound_at b letter x None = None
bound_at b letter x (Some None) = Some (slice_set b letter (Some x))
bound_at b letter x (Some (Some y)) = if is_same y x then Some b else None

abbrev pub bound : Bindings → ℕ → Symbol → Option Bindings
bound b letter x = bound_at b letter x (slice_get b letter)

abbrev pub bound_ends : Bindings → Ends ℕ → Ends Symbol → Option Bindings
bound_ends b e f = option_and_then (λ c. bound c e.tgt f.tgt) (bound b e.src f.src)

-- a value of this shape stands where the operation's line has that one
abbrev pub bound_shape : Bindings → Shape ℕ → Shape Symbol → Option Bindings
bound_shape b (Object x) (Object a) = bound b x a
bound_shape b (Morphism e) (Morphism f) = bound_ends b e f
bound_shape b (Two d e) (Two f g) = option_and_then (λ c. bound_ends c e g) (bound_ends b d f)
bound_shape b (Four p q r s) (Four t u v w) = option_and_then (λ c. option_and_then (λ d. option_and_then (λ e. bound_ends e s w) (bound_ends d r v)) (bound_ends c q u)) (bound_ends b p t)
bound_shape b Truth Truth = Some b
bound_shape b Scalar Scalar = Some b
bound_shape b _ _ = None

-- the variables stand where the operation's line has these arguments
abbrev pub bound_args : List (Shape Symbol) → Bindings → List (Shape ℕ) → List Var → Option Bindings
bound_args known b [] [] = Some b
bound_args known b (s ∷ ss) (x ∷ xs) = option_and_then (λ t. option_and_then (λ c. bound_args known c ss xs) (bound_shape b s t)) (slice_get known x.0)
bound_args known b _ _ = None

-- the object of a letter, a new one where nothing is bound
abbrev pub or_fresh : Symbol → Option (Option Symbol) → Symbol
or_fresh fresh (Some (Some x)) = x
or_fresh fresh _ = fresh

abbrev pub object_in : (ℕ → Symbol) → Bindings → ℕ → Symbol
object_in fresh b letter = or_fresh (fresh letter) (slice_get b letter)

abbrev pub is_operation : ℕ → Bool
is_operation op = nat_le 1 op && nat_le op 44

abbrev pub call_shape : List (Shape Symbol) → ℕ → ℕ → List Var → Option (Shape Symbol)
call_shape known k op xs =
    if is_operation op
    then option_map (λ b. renamed (object_in (Made k) b) (profile_of op).answer) (bound_args known no_bindings (profile_of op).arguments xs)
    else None

abbrev pub source_shape : Shape Symbol → Option (Shape Symbol)
source_shape (Morphism e) = Some (Object e.src)
source_shape _ = None

abbrev pub target_shape : Shape Symbol → Option (Shape Symbol)
target_shape (Morphism e) = Some (Object e.tgt)
target_shape _ = None

abbrev pub part_shape : ℕ → Shape Symbol → Option (Shape Symbol)
part_shape n s = option_map Morphism (nth_from_one (parts_of s) n)

abbrev pub exists_shape : Shape Symbol → Option (Shape Symbol)
exists_shape (Object a) = None
exists_shape Scalar = None
exists_shape _ = Some Truth

abbrev pub both_shape : Shape Symbol → Shape Symbol → Option (Shape Symbol)
both_shape Truth Truth = Some Truth
both_shape _ _ = None

abbrev pub morphisms_only : Shape Symbol → Option (Shape Symbol)
morphisms_only (Morphism e) = Some (Morphism e)
morphisms_only (Two d e) = Some (Two d e)
morphisms_only (Four c d e f) = Some (Four c d e f)
morphisms_only _ = None

abbrev pub when_shape : Shape Symbol → Shape Symbol → Option (Shape Symbol)
when_shape Truth s = morphisms_only s
when_shape _ s = None

abbrev pub ends_of : Shape Symbol → Option (Ends Symbol)
ends_of (Morphism e) = Some e
ends_of _ = None

-- the ends of a variable that is a morphism
abbrev pub ends_at : List (Shape Symbol) → Var → Option (Ends Symbol)
ends_at known x = option_and_then ends_of (slice_get known x.0)

abbrev pub tuple_at : List (Shape Symbol) → List Var → Option (Shape Symbol)
tuple_at known (x ∷ y ∷ []) = option_and_then (λ d. option_and_then (λ e. Some (Two d e)) (ends_at known y)) (ends_at known x)
tuple_at known (x ∷ y ∷ z ∷ w ∷ []) =
    option_and_then (λ c. option_and_then (λ d. option_and_then (λ e. option_and_then (λ f. Some (Four c d e f)) (ends_at known w)) (ends_at known z)) (ends_at known y)) (ends_at known x)
tuple_at known _ = None

-- the shape of the answer of step k, where the step is typed
abbrev pub step_shape : List (Shape Symbol) → ℕ → Step → Option (Shape Symbol)
step_shape known k (Call op xs) = call_shape known k op.0 xs
step_shape known k (Src x) = option_and_then source_shape (slice_get known x.0)
step_shape known k (Tgt x) = option_and_then target_shape (slice_get known x.0)
step_shape known k (Part x n) = option_and_then (part_shape n) (slice_get known x.0)
step_shape known k MinusOne = Some Scalar
step_shape known k (Exists x) = option_and_then exists_shape (slice_get known x.0)
step_shape known k (Both x y) = option_and_then (λ s. option_and_then (both_shape s) (slice_get known y.0)) (slice_get known x.0)
step_shape known k (When x y) = option_and_then (λ s. option_and_then (when_shape s) (slice_get known y.0)) (slice_get known x.0)
step_shape known k (Tuple xs) = tuple_at known xs

-- the first variables
abbrev pub first_variables : List Var
first_variables = record { 0 = 0 } ∷ record { 0 = 1 } ∷ record { 0 = 2 } ∷ record { 0 = 3 } ∷ []

-- the bindings after the answer is compared with that of the head
abbrev pub answer_bindings : List (Shape Symbol) → ℕ → ℕ → Var → Option Bindings
answer_bindings known head params answer =
    option_and_then (λ s. option_and_then (λ b. bound_shape b (profile_of head).answer s) (bound_args known no_bindings (profile_of head).arguments (take params first_variables))) (slice_get known answer.0)

abbrev pub fault_unless : ℕ → (Shape Symbol → Option ℕ) → Option (Shape Symbol) → Option ℕ
fault_unless k rest None = Some k
fault_unless k rest (Some t) = rest t

-- the first fault of the steps from number k on
abbrev pub steps_fault : List (Shape Symbol) → ℕ → ℕ → Var → ℕ → List Step → Option ℕ
steps_fault known head params answer k [] = if is_some (answer_bindings known head params answer) then None else Some k
steps_fault known head params answer k (s ∷ ss) = fault_unless k (λ t. steps_fault (known ++ t ∷ []) head params answer (k + 1) ss) (step_shape known k s)

abbrev pub has_parameters : ℕ → ℕ → Bool
has_parameters head params = is_operation head && (params == length (profile_of head).arguments)

abbrev pub given_shapes : ℕ → List (Shape Symbol)
given_shapes head = map (renamed Given) (profile_of head).arguments

-- the first fault of a body
abbrev pub body_fault : ℕ → Body → Option ℕ
body_fault head body = if has_parameters head body.params then steps_fault (given_shapes head) head body.params body.answer 0 body.steps else Some 0
