-- What a call says of its board.
use Rattle.std.specs.Prelude.{◌≡◌, ℕ, suc, ◌^◌, false, List, ◌++◌, Option, Some, None, Result, Ok, Err}
use Rattle.cap_names.specs.declared.identifiers.Handle.{Handle}
use Rattle.cap_ops.specs.declared.keys.Arg.{Arg}
use Rattle.cap_ops.specs.declared.keys.PrimOut.{PrimOut}
use Rattle.cap_ops.specs.declared.plans.Plan.{Plan}
use Rattle.cap_ops.specs.declared.plans.TheConstants.{NO_PLAN}
use Rattle.cap_ops.specs.Operations.{operation}
use Rattle.cap_ops.specs.Values.{Fits}
use Rattle.cap_ops.specs.Arrows.{ValueOver, over}
use Rattle.cap_ops.specs.Told.{Tells, TellsAll, IsDatum}
use Rattle.cap_ops.specs.Primitives.{OfferData, prime_of}
use Rattle.cap_terms.specs.declared.body.Step.{Step}
use Rattle.cap_terms.specs.declared.body.Step.TheVariants.{Call}
use Rattle.cap_terms.specs.declared.body.Rule.{Rule}
use Rattle.cap_terms.specs.Run.{done, all_at, has_none, StepGives, StepsGive}
use Rattle.cap_terms.specs.Ends.{EndsGive}
use Rattle.cap_run.specs.Plans.{bound, AreRules, StepsBelow}
use Rattle.cap_run.specs.Runs.{RunWithin}
use Rattle.cap_run.specs.Puts.{Good}
use Rattle.cap_board.specs.declared.answers.PutAnswer.TheVariants.{Entry, Full as PutFull}
use Rattle.cap_board.specs.declared.refusals.CallRefusal.TheVariants.{Missing, Full, NoMemory}
use Rattle.cap_steps.specs.declared.slots.Slot.{Slot}
use Rattle.cap_steps.specs.Slots.{slot_value}
use Rattle.cap_board.specs.declared.refusals.CallRefusal.{CallRefusal}
use Rattle.cap_board.specs.Board.{Event, BoardState, Planned, Puts}
use Rattle.cap_board.specs.Trace.{CallEnd, StepEnd, StepTrace, StepsTrace, TraceWithin}

-- how deep calls of an operation may nest, where the plan is known or not
abbrev pub depth : Option Plan → ℕ → ℕ
depth None op = 2 ^ 64
depth (Some p) op = bound p op

-- a board answers in the offer's category by the rules
pub record Ready {X O M : Type 0} (s : BoardState X O M) (offer : X) (rules : List Rule) : Type 0 where
  pub offers : s.offer ≡ offer
  pub by_rules : s.rules ≡ rules
  pub are : AreRules rules

-- the events that a call added are the trace of the call
pub record Traced {X O M : Type 0} (D : OfferData O M) (s : BoardState X O M) (s' : BoardState X O M) (told' : Handle → Option O) (op : ℕ) (args : List (Arg M)) (end : CallEnd M) : Type 0 where
  pub added : List (Event O M)
  pub events : s'.events ≡ s.events ++ added
  pub trace : TraceWithin D s.rules told' (suc (depth s.plan op)) op args added end

-- by the plan no derivation of the operation has a weight
pub record IsMissing {O M : Type 0} (D : OfferData O M) (rules : List Rule) (known : Option Plan) (op : ℕ) : Type 0 where
  pub p : Plan
  pub planned : Planned D rules known p
  pub missing : bound p op ≡ NO_PLAN

-- a value is the key's value by the plan, and the events are the trace; so they are at a refusal; only the called operation is told as missing; want of memory says nothing
abbrev pub CallSays : {X O M : Type 0} → OfferData O M → BoardState X O M → BoardState X O M → (Handle → Option O) → ℕ → List (Arg M) → CallEnd M → Type 0
CallSays D s s' told' op args (Ok v) = Traced D s s' told' op args (Ok v) × ((p : Plan) × Planned D s'.rules s'.plan p × Good D s.rules p told' op args v)
CallSays D s s' told' op args (Err NoMemory) = Unit {0}
CallSays D s s' told' op args (Err (Missing o)) = Traced D s s' told' op args (Err (Missing o)) × (o ≡ operation op) × IsMissing D s'.rules s'.plan op
CallSays D s s' told' op args (Err e) = Traced D s s' told' op args (Err e)

-- the plan is known, and the operations that the steps of a body of head call have smaller bounds
pub record Chosen {X O M : Type 0} (D : OfferData O M) (s : BoardState X O M) (head : ℕ) (steps : List Step) : Type 0 where
  pub p : Plan
  pub planned : Planned D s.rules s.plan p
  pub below : StepsBelow p (bound p head) steps

-- the arguments of a call in a step fit, where none of them is `none`
abbrev pub StepFits : {M : Type 0} → ℕ → Step → List (ValueOver Handle M) → Type 0
StepFits p (Call op xs) values = has_none (all_at values xs) ≡ false → Fits (over p) op.0 (all_at values xs)
StepFits p _ values = Unit {0}

pub record BodyTraced {X O M : Type 0} (D : OfferData O M) (s : BoardState X O M) (s' : BoardState X O M) (told' : Handle → Option O) (r : Rule) (values : List (ValueOver Handle M)) (end : StepEnd M) : Type 0 where
  pub added : List (Event O M)
  pub events : s'.events ≡ s.events ++ added
  pub trace : StepsTrace (prime_of D) (TraceWithin D s.rules told' (depth s.plan r.cost.head.0)) r.body.steps values r.body.answer added end

-- the value of a body: its data are those that the steps give in plain evaluation, and it has the ends that they give
pub record BodyGood {X O M : Type 0} (D : OfferData O M) (s : BoardState X O M) (told' : Handle → Option O) (r : Rule) (values : List (ValueOver Handle M)) (v : ValueOver Handle M) : Type 0 where
  pub p : Plan
  pub planned : Planned D s.rules s.plan p
  pub data_of : List (ValueOver O M)
  pub tells_values : TellsAll told' values data_of
  pub out : ValueOver O M
  pub tells : Tells told' v out
  pub is_datum : IsDatum D.category out
  pub runs : StepsGive (over (prime_of D)) (RunWithin D s.rules p (bound p r.cost.head.0)) r.body.steps data_of r.body.answer (done out)
  pub ends : StepsGive (over (prime_of D)) (EndsGive (over (prime_of D))) r.body.steps values r.body.answer (done v)

abbrev pub BodySays : {X O M : Type 0} → OfferData O M → BoardState X O M → BoardState X O M → (Handle → Option O) → Rule → List (ValueOver Handle M) → StepEnd M → Type 0
BodySays D s s' told' r values (Ok v) = BodyTraced D s s' told' r values (Ok v) × BodyGood D s told' r values v
BodySays D s s' told' r values (Err NoMemory) = Unit {0}
BodySays D s s' told' r values (Err (Missing o)) = ⊥
BodySays D s s' told' r values (Err e) = BodyTraced D s s' told' r values (Err e)

pub record StepTraced {X O M : Type 0} (D : OfferData O M) (s : BoardState X O M) (s' : BoardState X O M) (told' : Handle → Option O) (head : ℕ) (step : Step) (values : List (ValueOver Handle M)) (end : StepEnd M) : Type 0 where
  pub added : List (Event O M)
  pub events : s'.events ≡ s.events ++ added
  pub trace : StepTrace (prime_of D) (TraceWithin D s.rules told' (depth s.plan head)) step values added end

pub record StepGood {X O M : Type 0} (D : OfferData O M) (s : BoardState X O M) (told' : Handle → Option O) (head : ℕ) (step : Step) (values : List (ValueOver Handle M)) (v : ValueOver Handle M) : Type 0 where
  pub p : Plan
  pub planned : Planned D s.rules s.plan p
  pub data_of : List (ValueOver O M)
  pub tells_values : TellsAll told' values data_of
  pub out : ValueOver O M
  pub tells : Tells told' v out
  pub is_datum : IsDatum D.category out
  pub runs : StepGives (over (prime_of D)) (RunWithin D s.rules p (bound p head)) step data_of (done out)
  pub ends : StepGives (over (prime_of D)) (EndsGive (over (prime_of D))) step values (done v)

abbrev pub StepSays : {X O M : Type 0} → OfferData O M → BoardState X O M → BoardState X O M → (Handle → Option O) → ℕ → Step → List (ValueOver Handle M) → StepEnd M → Type 0
StepSays D s s' told' head step values (Ok v) = StepTraced D s s' told' head step values (Ok v) × StepGood D s told' head step values v
StepSays D s s' told' head step values (Err NoMemory) = Unit {0}
StepSays D s s' told' head step values (Err (Missing o)) = ⊥
StepSays D s s' told' head step values (Err e) = StepTraced D s s' told' head step values (Err e)

-- what a put brings a call
abbrev pub PutEnds : {X O M : Type 0} → OfferData O M → BoardState X O M → (Handle → Option O) → ℕ → List (Arg M) → PrimOut O M → BoardState X O M → (Handle → Option O) → CallEnd M → Type 0
PutEnds D s told op args given s' told' (Ok v) = Puts D s told op args given (Entry v) s' told'
PutEnds D s told op args given s' told' (Err NoMemory) = Unit {0}
PutEnds D s told op args given s' told' (Err (Full entries cells)) = Puts D s told op args given (PutFull entries cells) s' told'
PutEnds D s told op args given s' told' (Err e) = ⊥

-- how a step ends whose answer is a slot
abbrev pub slot_end : {M : Type 0} → Result (Slot M) CallRefusal → StepEnd M
slot_end (Ok s) = Ok (slot_value s)
slot_end (Err e) = Err e

abbrev pub BodySaysSlot : {X O M : Type 0} → OfferData O M → BoardState X O M → BoardState X O M → (Handle → Option O) → Rule → List (ValueOver Handle M) → Result (Slot M) CallRefusal → Type 0
BodySaysSlot D s s' told' r values end = BodySays D s s' told' r values (slot_end end)

abbrev pub StepSaysSlot : {X O M : Type 0} → OfferData O M → BoardState X O M → BoardState X O M → (Handle → Option O) → ℕ → Step → List (ValueOver Handle M) → Result (Slot M) CallRefusal → Type 0
StepSaysSlot D s s' told' head step values end = StepSays D s s' told' head step values (slot_end end)
