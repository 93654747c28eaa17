-- What running a body means. What calls give is a parameter, so that the same words serve the soundness of rules (calls give what the operations mean), plain evaluation (calls give what smaller runs give) and the ends of values (calls give what has their signature's ends).
use Rattle.std.specs.Prelude.{◌≡◌, ℕ, zero, suc, Bool, true, false, ◌&&◌, List, [], ◌∷◌, ◌++◌, Option, None, slice_get, map, unwrap_or, ◌⊎◌, MatchBool}
use Rattle.std.specs.List.{list_any}
use Rattle.cap_ops.specs.Values.{Value, object, morphism, two, four, truth, scalar, none, Setting}
use Rattle.cap_terms.specs.declared.body.Var.{Var}
use Rattle.cap_terms.specs.declared.body.Step.{Step}
use Rattle.cap_terms.specs.declared.body.Step.TheVariants.{Call, Src, Tgt, Part, MinusOne, Exists, Both, When, Tuple}
use Rattle.cap_terms.specs.declared.body.Body.{Body}

-- a value, or the size of a matrix past the limits
pub data Outcome (Obj Mor : Type 0) : Type 0 where
  done : Value Obj Mor → Outcome Obj Mor
  large : ℕ → ℕ → Outcome Obj Mor

-- the value of a variable, where these are the parameters and the answers of the steps so far
abbrev pub at : {Obj Mor : Type 0} → List (Value Obj Mor) → Var → Value Obj Mor
at values x = unwrap_or (slice_get values x.0) none

abbrev pub all_at : {Obj Mor : Type 0} → List (Value Obj Mor) → List Var → List (Value Obj Mor)
all_at values xs = map (at values) xs

abbrev pub is_none : {Obj Mor : Type 0} → Value Obj Mor → Bool
is_none none = true
is_none _ = false

abbrev pub has_none : {Obj Mor : Type 0} → List (Value Obj Mor) → Bool
has_none values = list_any is_none values

-- what the steps that call nothing make of their values; they make `none` of a `none`, but for `exists`
abbrev pub source_of : {Obj Mor : Type 0} → Setting Obj Mor → Value Obj Mor → Value Obj Mor
source_of S (morphism f) = object (S.source f)
source_of S _ = none

abbrev pub target_of : {Obj Mor : Type 0} → Setting Obj Mor → Value Obj Mor → Value Obj Mor
target_of S (morphism f) = object (S.target f)
target_of S _ = none

abbrev pub parts : {Obj Mor : Type 0} → Value Obj Mor → List (Value Obj Mor)
parts (two p q) = morphism p ∷ morphism q ∷ []
parts (four p q r s) = morphism p ∷ morphism q ∷ morphism r ∷ morphism s ∷ []
parts _ = []

-- an element by its number, from 1
abbrev pub nth_from_one : {X : Type 0} → List X → ℕ → Option X
nth_from_one xs zero = None
nth_from_one xs (suc n) = slice_get xs n

abbrev pub part_of : {Obj Mor : Type 0} → Value Obj Mor → ℕ → Value Obj Mor
part_of v n = unwrap_or (nth_from_one (parts v) n) none

abbrev pub exists_of : {Obj Mor : Type 0} → Value Obj Mor → Value Obj Mor
exists_of none = truth false
exists_of _ = truth true

abbrev pub both_of : {Obj Mor : Type 0} → Value Obj Mor → Value Obj Mor → Value Obj Mor
both_of (truth a) (truth b) = truth (a && b)
both_of _ _ = none

abbrev pub when_of : {Obj Mor : Type 0} → Value Obj Mor → Value Obj Mor → Value Obj Mor
when_of (truth true) v = v
when_of _ _ = none

abbrev pub tuple_of : {Obj Mor : Type 0} → List (Value Obj Mor) → Value Obj Mor
tuple_of (morphism p ∷ morphism q ∷ []) = two p q
tuple_of (morphism p ∷ morphism q ∷ morphism r ∷ morphism s ∷ []) = four p q r s
tuple_of _ = none

-- what may come of calls: of the operation with a number, on arguments
abbrev pub Calls : Type 0 → Type 0 → Type 1
Calls Obj Mor = ℕ → List (Value Obj Mor) → Outcome Obj Mor → Type 0

-- `out` may be what the step gives, where R says what calls give
abbrev pub StepGives : {Obj Mor : Type 0} → Setting Obj Mor → Calls Obj Mor → Step → List (Value Obj Mor) → Outcome Obj Mor → Type 0
StepGives S R (Call op xs) values out = MatchBool (has_none (all_at values xs)) (out ≡ done none) (R op.0 (all_at values xs) out)
StepGives S R (Src x) values out = out ≡ done (source_of S (at values x))
StepGives S R (Tgt x) values out = out ≡ done (target_of S (at values x))
StepGives S R (Part x n) values out = out ≡ done (part_of (at values x) n)
StepGives S R MinusOne values out = out ≡ done (scalar S.minus_one)
StepGives S R (Exists x) values out = out ≡ done (exists_of (at values x))
StepGives S R (Both x y) values out = out ≡ done (both_of (at values x) (at values y))
StepGives S R (When x y) values out = out ≡ done (when_of (at values x) (at values y))
StepGives S R (Tuple xs) values out = out ≡ done (tuple_of (all_at values xs))

-- what follows a step: the first `large` is what the whole gives
abbrev pub After : {Obj Mor : Type 0} → Outcome Obj Mor → Outcome Obj Mor → (Value Obj Mor → Type 0) → Type 0
After (large r c) out K = out ≡ large r c
After (done w) out K = K w

-- `out` may be what the steps give with the variable x as the answer
abbrev pub StepsGive : {Obj Mor : Type 0} → Setting Obj Mor → Calls Obj Mor → List Step → List (Value Obj Mor) → Var → Outcome Obj Mor → Type 0
StepsGive S R [] values x out = out ≡ done (at values x)
StepsGive {Obj} {Mor} S R (s ∷ ss) values x out = (o : Outcome Obj Mor) × StepGives S R s values o × After o out (λ w. StepsGive S R ss (values ++ w ∷ []) x out)

-- `out` may be what the body gives on these arguments
abbrev pub BodyGives : {Obj Mor : Type 0} → Setting Obj Mor → Calls Obj Mor → Body → List (Value Obj Mor) → Outcome Obj Mor → Type 0
BodyGives S R body args out = StepsGive S R body.steps args body.answer out

-- the step is a call of the operation on these arguments, of which none is `none`
abbrev pub IsCallOf : {Obj Mor : Type 0} → Step → List (Value Obj Mor) → ℕ → List (Value Obj Mor) → Type 0
IsCallOf (Call o xs) values op args = (o.0 ≡ op) × (all_at values xs ≡ args) × (has_none args ≡ false)
IsCallOf _ values op args = ⊥

-- a run of the steps may come to the call of the operation on these arguments
abbrev pub ComesTo : {Obj Mor : Type 0} → Setting Obj Mor → Calls Obj Mor → List Step → List (Value Obj Mor) → ℕ → List (Value Obj Mor) → Type 0
ComesTo S R [] values op args = ⊥
ComesTo {Obj} {Mor} S R (s ∷ ss) values op args = IsCallOf s values op args ⊎ ((w : Value Obj Mor) × StepGives S R s values (done w) × ComesTo S R ss (values ++ w ∷ []) op args)
