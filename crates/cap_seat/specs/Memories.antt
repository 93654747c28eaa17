-- What was told at a seat, apart from its desk.
use Rattle.std.specs.Prelude.{Bool, List, []}
use Rattle.cap_names.specs.declared.identifiers.Handle.{Handle}
use Rattle.cap_names.specs.declared.identifiers.SessionNo.{SessionNo}
use Rattle.cap_history.specs.declared.entries.Entry.{Entry}
use Rattle.cap_desk.specs.Hands.{Hand}
use Rattle.cap_seat.specs.Seats.{Sitting}

-- the objects that were told, and whether the plan is known
pub record Remembered (O : Type 0) : Type 0 where
  pub known : List (Handle × O)
  pub knows : Bool

-- the seat of a session that remembers this, before a desk with this offer, these entries and this hand; it has tried nothing
abbrev pub remembering : {X O M : Type 0} → X → SessionNo → List (Entry O M) → Remembered O → Hand → Sitting X O M
remembering offer session seen memory hand = record { offer = offer; session = session; seen = seen; known = memory.known; tries = []; knows = memory.knows; hand = hand }
