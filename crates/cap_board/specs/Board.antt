-- What a board is: its category, its asks and puts with their answers, the objects told, and the plan once it is known; and what its answers say.
use Rattle.std.specs.Prelude.{◌≡◌, ℕ, List, [], ◌∷◌, ◌++◌, Option, Some}
use Rattle.cap_names.specs.declared.identifiers.Handle.{Handle}
use Rattle.cap_ops.specs.declared.keys.Arg.{Arg}
use Rattle.cap_ops.specs.declared.keys.PrimOut.{PrimOut}
use Rattle.cap_ops.specs.declared.keys.Value.{Value as Answer}
use Rattle.cap_ops.specs.declared.plans.Plan.{Plan}
use Rattle.cap_ops.specs.Told.{StaysTold}
use Rattle.cap_ops.specs.Primitives.{OfferData}
use Rattle.cap_terms.specs.declared.body.Rule.{Rule}
use Rattle.cap_run.specs.Plans.{choice, IsPlanOf}
use Rattle.cap_run.specs.Puts.{Good, PutTrue}
use Rattle.cap_board.specs.declared.answers.Asked.{Asked}
use Rattle.cap_board.specs.declared.answers.Asked.TheVariants.{Hit, Miss}
use Rattle.cap_board.specs.declared.answers.PutAnswer.{PutAnswer}
use Rattle.cap_board.specs.declared.answers.PutAnswer.TheVariants.{Entry}

-- an ask or a put of a key, with its answer
pub data Event (O M : Type 0) : Type 0 where
  asked : ℕ → List (Arg M) → Asked M → Event O M
  kept : ℕ → List (Arg M) → PrimOut O M → PutAnswer M → Event O M

-- what a board has besides its objects: the offer in whose category it answers, the rules, its events, and the plan once it is known
pub record BoardState (X O M : Type 0) : Type 0 where
  pub offer : X
  pub rules : List Rule
  pub events : List (Event O M)
  pub plan : Option Plan

-- offer and rules are the same, and what was told stays, and so does the plan
pub record Grows {X O M : Type 0} (s : BoardState X O M) (told : Handle → Option O) (s' : BoardState X O M) (told' : Handle → Option O) : Type 0 where
  pub offer : s'.offer ≡ s.offer
  pub rules : s'.rules ≡ s.rules
  pub stays : StaysTold told told'
  pub plan : (p : Plan) → s.plan ≡ Some p → s'.plan ≡ Some p

-- the plan is known, and is the plan of registrations of offered primitives
pub record Planned {O M : Type 0} (D : OfferData O M) (rules : List Rule) (known : Option Plan) (p : Plan) : Type 0 where
  pub is : known ≡ Some p
  pub is_plan : IsPlanOf D rules p

-- a hit is the key's value by the plan, and a miss has the plan's choice
abbrev pub AskSays : {O M : Type 0} → OfferData O M → List Rule → Option Plan → (Handle → Option O) → ℕ → List (Arg M) → Asked M → Type 0
AskSays D rules known told op args (Hit v) = (p : Plan) × Planned D rules known p × Good D rules p told op args v
AskSays D rules known told op args (Miss c) = (p : Plan) × Planned D rules known p × (choice p op ≡ c)
AskSays D rules known told op args _ = Unit {0}

pub record Asks {X O M : Type 0} (D : OfferData O M) (s : BoardState X O M) (told : Handle → Option O) (op : ℕ) (args : List (Arg M)) (a : Asked M) (s' : BoardState X O M) (told' : Handle → Option O) : Type 0 where
  pub grows : Grows s told s' told'
  pub events : s'.events ≡ s.events ++ asked op args a ∷ []
  pub says : AskSays D s'.rules s'.plan told' op args a

-- the result may be put: a plan is known, and by it the put is true
pub record MayPut {X O M : Type 0} (D : OfferData O M) (s : BoardState X O M) (told : Handle → Option O) (op : ℕ) (args : List (Arg M)) (given : PrimOut O M) : Type 0 where
  pub p : Plan
  pub planned : Planned D s.rules s.plan p
  pub is : PutTrue D s.rules p told op args given

abbrev pub PutSays : {O M : Type 0} → OfferData O M → List Rule → Option Plan → (Handle → Option O) → ℕ → List (Arg M) → PutAnswer M → Type 0
PutSays D rules known told op args (Entry v) = (p : Plan) × Planned D rules known p × Good D rules p told op args v
PutSays D rules known told op args _ = Unit {0}

pub record Puts {X O M : Type 0} (D : OfferData O M) (s : BoardState X O M) (told : Handle → Option O) (op : ℕ) (args : List (Arg M)) (given : PrimOut O M) (a : PutAnswer M) (s' : BoardState X O M) (told' : Handle → Option O) : Type 0 where
  pub grows : Grows s told s' told'
  pub events : s'.events ≡ s.events ++ kept op args given a ∷ []
  pub says : PutSays D s'.rules s'.plan told' op args a

-- each told object is an object of the category
abbrev pub ToldObjects : {O M : Type 0} → OfferData O M → (Handle → Option O) → Type 0
ToldObjects {O} D told = (h : Handle) (o : O) → told h ≡ Some o → D.category.is_object o
