-- A session's seat before a category: the offer, what it has seen of the history, what it was told, what it tried.
use Rattle.std.specs.Prelude.{◌≡◌, ℕ, ◌==◌, Bool, true, false, if◌then◌else◌, List, [], ◌∷◌, ◌++◌, Option, Some, None, IsSome, option_map}
use Rattle.std.specs.List.{filter_map}
use Rattle.cap_names.specs.declared.identifiers.Handle.{Handle}
use Rattle.cap_names.specs.declared.identifiers.SessionNo.{SessionNo}
use Rattle.cap_ops.specs.declared.keys.Key.{Key}
use Rattle.cap_ops.specs.declared.keys.PrimOut.{PrimOut}
use Rattle.cap_ops.specs.declared.plans.Plan.{Plan}
use Rattle.cap_ops.specs.Primitives.{OfferData}
use Rattle.cap_ops.specs.Told.{told_in}
use Rattle.cap_rules.specs.Table.{rule_table}
use Rattle.cap_board.specs.declared.answers.Asked.{Asked}
use Rattle.cap_board.specs.declared.answers.Asked.TheVariants as asks
use Rattle.cap_board.specs.declared.answers.PutAnswer.{PutAnswer}
use Rattle.cap_board.specs.declared.answers.PutAnswer.TheVariants as puts
use Rattle.cap_board.specs.Board.{BoardState, ToldObjects}
use Rattle.cap_history.specs.declared.entries.Event.{Event}
use Rattle.cap_history.specs.declared.entries.Event.TheVariants.{Register, Finalise, Declare, Ask, Put, PlanOf}
use Rattle.cap_history.specs.declared.entries.Reply.{Reply}
use Rattle.cap_history.specs.declared.entries.Reply.TheVariants.{Object, Hit, Miss, Kept, Found}
use Rattle.cap_history.specs.declared.entries.Entry.{Entry}
use Rattle.cap_history.specs.declared.reading.Finality.{Finality}
use Rattle.cap_history.specs.Reading.{objects, finality}
use Rattle.cap_legal.specs.Legal.{Legal}
use Rattle.cap_desk.specs.Books.{frame}
use Rattle.cap_desk.specs.Hands.{Hand, hand_behind}
use Rattle.cap_desk.specs.Desks.{DeskSteps}
use Rattle.cap_seat.specs.declared.tries.Try.{Try}
use Rattle.cap_seat.specs.declared.tries.Tried.{Tried}
use Rattle.cap_seat.specs.declared.tries.Tried.TheVariants.{Replied, Full as TriedFull}
use Rattle.cap_seat.specs.Events.{try_event, try_of, step_of}

-- the offer of the category, the session, the entries that were seen, the objects told, what was tried, whether the plan is known, and what the desk has of the state before it
pub record Sitting (X O M : Type 0) : Type 0 where
  pub offer : X
  pub session : SessionNo
  pub seen : List (Entry O M)
  pub known : List (Handle × O)
  pub tries : List (Try O M)
  pub knows : Bool
  pub hand : Hand

-- the object that was told of a handle
abbrev pub told_among : {O : Type 0} → List (Handle × O) → Handle → Option O
told_among [] h = None
told_among (x ∷ xs) h = if x.0.0 == h.0 then Some x.1 else told_among xs h

abbrev pub told_at : {X O M : Type 0} → Sitting X O M → Handle → Option O
told_at s = told_among s.known

-- the plan, where it is known
abbrev pub plan_once : {O M : Type 0} → Bool → List (Entry O M) → Option Plan
plan_once true seen = option_map (λ (f : Finality). f.plan) (finality seen)
plan_once false seen = None

-- the seat as a board
abbrev pub state_of : {X O M : Type 0} → Sitting X O M → BoardState X O M
state_of s = record { offer = s.offer; rules = rule_table; events = filter_map try_event s.tries; plan = plan_once s.knows s.seen }

-- what was seen is legal, what was told is so there, a known plan is there, and each told object is the category's
pub record Holds {X O M : Type 0} (D : OfferData O M) (object_cells : O → ℕ) (morphism_cells : M → ℕ) (s : Sitting X O M) : Type 0 where
  pub legal : Legal (frame D object_cells morphism_cells) s.seen
  pub told : (h : Handle) (o : O) → told_at s h ≡ Some o → told_in (objects s.seen) h ≡ Some o
  pub plan : s.knows ≡ true → IsSome (finality s.seen)
  pub objects : ToldObjects D (told_at s)

-- the objects that a reply tells: that of a declaration, and those that come with a value
abbrev pub told_by : {O M : Type 0} → Event O M → Reply O M → List (Handle × O)
told_by (Declare name object) (Object h) = (h, object) ∷ []
told_by (Ask key) (Hit t) = t.objects
told_by (Put key out) (Kept t) = t.objects
told_by (Put key out) (Found t) = t.objects
told_by _ _ = []

-- whether a reply shows that there is a plan
abbrev pub shows_plan : {O M : Type 0} → Event O M → Reply O M → Bool
shows_plan (Ask key) (Hit t) = true
shows_plan (Ask key) (Miss c) = true
shows_plan _ _ = false

abbrev pub known_by : {O M : Type 0} → List (Handle × O) → Event O M → Tried O M → List (Handle × O)
known_by known event (Replied reply) = known ++ told_by event reply
known_by known event _ = known

abbrev pub knows_by : {O M : Type 0} → Bool → Event O M → Tried O M → Bool
knows_by knows event (Replied reply) = if shows_plan event reply then true else knows
knows_by knows event _ = knows

-- what an ask was answered
abbrev pub asked_of : {O M : Type 0} → Tried O M → Asked M
asked_of (Replied (Hit t)) = asks.Hit t.value
asked_of (Replied (Miss c)) = asks.Miss c
asked_of (Replied _) = asks.NotFinal
asked_of (TriedFull entries cells) = asks.Full entries cells

-- what a put was answered
abbrev pub put_of : {O M : Type 0} → Tried O M → Option (PutAnswer M)
put_of (Replied (Kept t)) = Some (puts.Entry t.value)
put_of (Replied (Found t)) = Some (puts.Entry t.value)
put_of (Replied _) = None
put_of (TriedFull entries cells) = Some (puts.Full entries cells)

-- an event of the session: the step of the state, behind what others have put, is tried, and what it tells is told
pub record Tries {X O M : Type 0} (D : OfferData O M) (object_cells : O → ℕ) (morphism_cells : M → ℕ) (others : List (Entry O M) → Type 0) (s : Sitting X O M) (event : Event O M) (a : Tried O M) (s' : Sitting X O M) : Type 0 where
  pub steps : DeskSteps D object_cells morphism_cells others s.seen s.session event (step_of a) s'.seen
  pub is : s' ≡ record { offer = s.offer; session = s.session; seen = s'.seen; known = known_by s.known event a; tries = s.tries ++ try_of s.session event a ∷ []; knows = knows_by s.knows event a; hand = hand_behind s.hand (step_of a) }

-- entries of others may have been seen, and no more
pub record SeesOthers {O M : Type 0} (others : List (Entry O M) → Type 0) (seen seen' : List (Entry O M)) : Type 0 where
  pub between : List (Entry O M)
  pub allowed : others between
  pub is : seen' ≡ seen ++ between

-- without memory nothing was tried, though entries of others may have been seen
pub record Waits {X O M : Type 0} (others : List (Entry O M) → Type 0) (s s' : Sitting X O M) : Type 0 where
  pub sees : SeesOthers others s.seen s'.seen
  pub is : s' ≡ record { offer = s.offer; session = s.session; seen = s'.seen; known = s.known; tries = s.tries; knows = s.knows; hand = s.hand }

-- an ask, and a put, of the session
pub record SeatAsks {X O M : Type 0} (D : OfferData O M) (object_cells : O → ℕ) (morphism_cells : M → ℕ) (others : List (Entry O M) → Type 0) (s : Sitting X O M) (key : Key M) (a : Asked M) (s' : Sitting X O M) : Type 0 where
  pub tried : Tried O M
  pub tries : Tries D object_cells morphism_cells others s (Ask key) tried s'
  pub answers : asked_of tried ≡ a

pub record SeatPuts {X O M : Type 0} (D : OfferData O M) (object_cells : O → ℕ) (morphism_cells : M → ℕ) (others : List (Entry O M) → Type 0) (s : Sitting X O M) (key : Key M) (out : PrimOut O M) (a : PutAnswer M) (s' : Sitting X O M) : Type 0 where
  pub tried : Tried O M
  pub tries : Tries D object_cells morphism_cells others s (Put key out) tried s'
  pub answers : put_of tried ≡ Some a

-- registers, finalisations and readings of the plan: their replies tell no objects
abbrev pub IsPlain : {O M : Type 0} → Event O M → Type 0
IsPlain (Register op weight) = Unit {0}
IsPlain Finalise = Unit {0}
IsPlain PlanOf = Unit {0}
IsPlain _ = ⊥
