-- What may be asked of a category, and how many data events and replies have.
use Rattle.std.specs.Prelude.{ℕ, ◌<◌, ◌≤◌, List, length}
use Rattle.std.specs.List.{All}
use Rattle.cap_ops.specs.declared.arrows.End.{End}
use Rattle.cap_ops.specs.declared.arrows.End.TheVariants.{Old, New}
use Rattle.cap_ops.specs.declared.arrows.OutArrow.{OutArrow}
use Rattle.cap_ops.specs.declared.keys.Key.{Key}
use Rattle.cap_ops.specs.declared.keys.Out.{Out}
use Rattle.cap_ops.specs.declared.keys.Out.TheVariants.{One, Many, Truth, Nothing}
use Rattle.cap_ops.specs.declared.keys.PrimOut.{PrimOut}
use Rattle.cap_ops.specs.declared.plans.Plan.{Plan}
use Rattle.cap_ops.specs.declared.plans.TheConstants.{MOST_WEIGHT}
use Rattle.cap_ops.specs.Cells.{IsShortKey, IsShortAnswer, IsShortResult}
use Rattle.cap_ops.specs.Ends.{IsOperation}
use Rattle.cap_history.specs.declared.entries.Event.{Event}
use Rattle.cap_history.specs.declared.entries.Event.TheVariants.{Register, Finalise, Declare, Ask, Put, PlanOf}
use Rattle.cap_history.specs.declared.entries.Reply.{Reply}
use Rattle.cap_history.specs.declared.entries.Reply.TheVariants.{Hit, Kept, Found}
use Rattle.cap_history.specs.declared.entries.Entry.{Entry}
use Rattle.cap_history.specs.declared.entries.Told.{Told}
use Rattle.cap_history.specs.Reading.{objects}
use Rattle.cap_history.specs.Replies.{IsFinal}

-- an end is one of the objects that are there, or one of the new ones
abbrev pub EndIsThere : ℕ → ℕ → End → Type 0
EndIsThere count fresh (Old h) = h.0 < count
EndIsThere count fresh (New k) = k < fresh

pub record ArrowIsThere {M : Type 0} (count fresh : ℕ) (f : OutArrow M) : Type 0 where
  pub src : EndIsThere count fresh f.src
  pub tgt : EndIsThere count fresh f.tgt

abbrev pub OutIsThere : {M : Type 0} → ℕ → ℕ → Out M → Type 0
OutIsThere count fresh (One f) = ArrowIsThere count fresh f
OutIsThere count fresh (Many fs) = All (ArrowIsThere count fresh) fs
OutIsThere count fresh (Truth b) = Unit {0}
OutIsThere count fresh Nothing = Unit {0}

-- a key of one of the operations, with at most four arguments
pub record IsAsked {M : Type 0} (key : Key M) : Type 0 where
  pub operation : IsOperation key.op.0
  pub short : IsShortKey key

-- the weight of one of the operations, from 1 to 1,000,000
pub record MayRegister (op weight : ℕ) : Type 0 where
  pub operation : IsOperation op
  pub from : 1 ≤ weight
  pub to : weight ≤ MOST_WEIGHT

module _ {O M : Type 0} (entries : List (Entry O M)) where
  -- what is put: the category is final, the ends are there, and there are at most four morphisms and four new objects
  pub record MayPut (key : Key M) (out : PrimOut O M) : Type 0 where
    pub asked : IsAsked key
    pub at : ℕ
    pub p : Plan
    pub final : IsFinal entries at p
    pub short : IsShortResult out
    pub there : OutIsThere (length (objects entries)) (length out.fresh) out.out

  -- what may be asked of a category with this history
  abbrev pub May : Event O M → Type 0
  May (Register op weight) = MayRegister op.0 weight
  May Finalise = Unit {0}
  May (Declare name object) = Unit {0}
  May (Ask key) = IsAsked key
  May (Put key out) = MayPut key out
  May PlanOf = Unit {0}

-- an event's operation is one
abbrev pub IsOfOperation : {O M : Type 0} → Event O M → Type 0
IsOfOperation (Register op weight) = IsOperation op.0
IsOfOperation _ = Unit {0}

-- at most four arguments, four morphisms and four new objects
abbrev pub IsShortEvent : {O M : Type 0} → Event O M → Type 0
IsShortEvent (Ask key) = IsShortKey key
IsShortEvent (Put key out) = IsShortKey key × IsShortResult out
IsShortEvent _ = Unit {0}

-- at most four morphisms, and eight objects
pub record IsShortTold {O M : Type 0} (t : Told O M) : Type 0 where
  pub value : IsShortAnswer t.value
  pub objects : length t.objects ≤ 8

abbrev pub IsShortReply : {O M : Type 0} → Reply O M → Type 0
IsShortReply (Hit t) = IsShortTold t
IsShortReply (Kept t) = IsShortTold t
IsShortReply (Found t) = IsShortTold t
IsShortReply _ = Unit {0}
