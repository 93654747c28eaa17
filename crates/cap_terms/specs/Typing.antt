-- Which bodies are typed. The objects of a body go by names: the letters of the head's arguments, and for each step that is a call the new letters of its operation, all different. A body is typed where some assignment of sorts and ends to its variables makes each step right, and the answer has the head's sort and ends.
use Rattle.std.specs.Prelude.{◌≡◌, ℕ, ◌+◌, ◌<◌, List, [], ◌∷◌, Option, Some, None, slice_get, map, length, take, All, Contains}
use Rattle.cap_ops.specs.declared.ends.Ends.{Ends}
use Rattle.cap_ops.specs.declared.ends.Shape.{Shape}
use Rattle.cap_ops.specs.declared.ends.Shape.TheVariants.{Object, Morphism, Two, Four, Truth, Scalar}
use Rattle.cap_ops.specs.Ends.{IsOperation, profile_of, places, IsNew, renamed}
use Rattle.cap_terms.specs.declared.body.Var.{Var}
use Rattle.cap_terms.specs.declared.body.Step.{Step}
use Rattle.cap_terms.specs.declared.body.Step.TheVariants.{Call, Src, Tgt, Part, MinusOne, Exists, Both, When, Tuple}
use Rattle.cap_terms.specs.declared.body.Body.{Body}
use Rattle.cap_terms.specs.declared.symbol.Symbol.{Symbol}
use Rattle.cap_terms.specs.declared.symbol.Symbol.TheVariants.{Given, Made}
use Rattle.cap_terms.specs.Run.{nth_from_one}

-- the sort and ends of each variable
abbrev pub Assignment : Type 0
Assignment = ℕ → Shape Symbol

-- the variables are parameters or answers of earlier steps, where the step's own answer is variable n
abbrev pub AllBefore : ℕ → List Var → Type 0
AllBefore n xs = All (λ x. x.0 < n) xs

abbrev pub shapes_at : Assignment → List Var → List (Shape Symbol)
shapes_at T xs = map (λ x. T x.0) xs

-- in step k a call of the operation on arguments of these shapes has an answer of this shape: some objects stand for the letters of the operation, new objects for the new ones
pub record CallTyped (k op : ℕ) (args : List (Shape Symbol)) (answer : Shape Symbol) : Type 0 where
  pub operation : IsOperation op
  pub objects : ℕ → Symbol
  pub arguments : args ≡ map (renamed objects) (profile_of op).arguments
  pub new_objects : (letter : ℕ) → IsNew (profile_of op) letter → objects letter ≡ Made k letter
  pub answered : answer ≡ renamed objects (profile_of op).answer

-- the morphisms of a tuple, and the tuple of two or four morphisms
abbrev pub parts_of : {X : Type 0} → Shape X → List (Ends X)
parts_of (Two d e) = d ∷ e ∷ []
parts_of (Four c d e f) = c ∷ d ∷ e ∷ f ∷ []
parts_of _ = []

abbrev pub tuple_shape : {X : Type 0} → List (Ends X) → Option (Shape X)
tuple_shape (d ∷ e ∷ []) = Some (Two d e)
tuple_shape (c ∷ d ∷ e ∷ f ∷ []) = Some (Four c d e f)
tuple_shape _ = None

-- a morphism or a tuple
abbrev pub HasMorphisms : {X : Type 0} → Shape X → Type 0
HasMorphisms (Morphism e) = Unit {0}
HasMorphisms (Two d e) = Unit {0}
HasMorphisms (Four c d e f) = Unit {0}
HasMorphisms _ = ⊥

-- a morphism, a tuple or a truth
abbrev pub CanExist : {X : Type 0} → Shape X → Type 0
CanExist Truth = Unit {0}
CanExist s = HasMorphisms s

-- step k, whose answer is variable n, is typed with an answer of this shape
abbrev pub StepTyped : Assignment → ℕ → ℕ → Step → Shape Symbol → Type 0
StepTyped T n k (Call op xs) answer = AllBefore n xs × CallTyped k op.0 (shapes_at T xs) answer
StepTyped T n k (Src x) answer = (x.0 < n) × (e : Ends Symbol) × (T x.0 ≡ Morphism e) × (answer ≡ Object e.src)
StepTyped T n k (Tgt x) answer = (x.0 < n) × (e : Ends Symbol) × (T x.0 ≡ Morphism e) × (answer ≡ Object e.tgt)
StepTyped T n k (Part x i) answer = (x.0 < n) × (e : Ends Symbol) × (nth_from_one (parts_of (T x.0)) i ≡ Some e) × (answer ≡ Morphism e)
StepTyped T n k MinusOne answer = answer ≡ Scalar
StepTyped T n k (Exists x) answer = (x.0 < n) × CanExist (T x.0) × (answer ≡ Truth)
StepTyped T n k (Both x y) answer = (x.0 < n) × (y.0 < n) × (T x.0 ≡ Truth) × (T y.0 ≡ Truth) × (answer ≡ Truth)
StepTyped T n k (When x y) answer = (x.0 < n) × (y.0 < n) × (T x.0 ≡ Truth) × HasMorphisms (T y.0) × (answer ≡ T y.0)
StepTyped T n k (Tuple xs) answer = AllBefore n xs × (es : List (Ends Symbol)) × (shapes_at T xs ≡ map Morphism es) × (tuple_shape es ≡ Some answer)

-- there is one parameter for each argument of the head
pub record HasParameters (head params : ℕ) : Type 0 where
  pub operation : IsOperation head
  pub number : params ≡ length (profile_of head).arguments

-- the parameters have the sorts and ends of the head's arguments, and each step is typed
pub record StepsTypedBy (T : Assignment) (head params : ℕ) (steps : List Step) : Type 0 where
  pub parameters : (i : ℕ) (s : Shape ℕ) → slice_get (profile_of head).arguments i ≡ Some s → T i ≡ renamed Given s
  pub each : (k : ℕ) (s : Step) → slice_get steps k ≡ Some s → StepTyped T (params + k) k s (T (params + k))

abbrev pub StepsTyped : ℕ → ℕ → List Step → Type 0
StepsTyped head params steps = (T : Assignment) × StepsTypedBy T head params steps

-- a value of this shape has the head's sort and ends: any objects may stand for the head's new letters
pub record AnswerTyped (head : ℕ) (answer : Shape Symbol) : Type 0 where
  pub objects : ℕ → Symbol
  pub given : (letter : ℕ) → Contains (places (profile_of head).arguments) letter → objects letter ≡ Given letter
  pub answered : answer ≡ renamed objects (profile_of head).answer

pub record Typed (head : ℕ) (body : Body) : Type 0 where
  pub parameters : HasParameters head body.params
  pub types : Assignment
  pub steps : StepsTypedBy types head body.params body.steps
  pub known : body.answer.0 < body.params + length body.steps
  pub answer : AnswerTyped head (types body.answer.0)

-- what the number n tells of a body that is not typed: 0 where its parameters are wrong, else the first step that is refused, else the number of steps
pub data FirstFault (head : ℕ) (body : Body) : ℕ → Type 0 where
  parameters : (HasParameters head body.params → ⊥) → FirstFault head body 0
  step : {n : ℕ} → HasParameters head body.params → n < length body.steps → StepsTyped head body.params (take n body.steps) → (StepsTyped head body.params (take (n + 1) body.steps) → ⊥) → FirstFault head body n
  answer : HasParameters head body.params → StepsTyped head body.params body.steps → (Typed head body → ⊥) → FirstFault head body (length body.steps)
