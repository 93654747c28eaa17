-- What a session tried in a category: events with their entries, and events that a full history refused.
use Rattle.std.specs.Prelude.{◌≡◌, ◌++◌, ℕ, List, Option, Some, None, IsSome, Result, Ok, Err, length}
use Rattle.cap_names.specs.declared.identifiers.SessionNo.{SessionNo}
use Rattle.cap_board.specs.declared.answers.Asked.TheVariants as asks
use Rattle.cap_board.specs.declared.answers.PutAnswer.TheVariants as puts
use Rattle.cap_board.specs.Board.{asked, kept}
use Rattle.cap_board.specs.Board.{Event as BoardEvent}
use Rattle.cap_history.specs.declared.entries.Event.{Event}
use Rattle.cap_history.specs.declared.entries.Event.TheVariants.{Ask, Put}
use Rattle.cap_history.specs.declared.entries.Reply.{Reply}
use Rattle.cap_history.specs.declared.entries.Reply.TheVariants.{Hit, Miss, Kept, Found, NotFinal}
use Rattle.cap_history.specs.declared.entries.Entry.{Entry}
use Rattle.cap_history.specs.Reading.{cells}
use Rattle.cap_history.specs.Replies.{entry, IsFull}
use Rattle.cap_store.specs.declared.refusals.StepRefusal.{StepRefusal}
use Rattle.cap_store.specs.declared.refusals.StepRefusal.TheVariants.{Full as StepFull}
use Rattle.cap_seat.specs.declared.tries.Try.{Try}
use Rattle.cap_seat.specs.declared.tries.Try.TheVariants.{Entered, Full}
use Rattle.cap_seat.specs.declared.tries.Tried.{Tried}
use Rattle.cap_seat.specs.declared.tries.Tried.TheVariants.{Replied, Full as TriedFull}

-- the ask or put that an entry is, with its answer
abbrev pub board_event : {O M : Type 0} → Event O M → Reply O M → Option (BoardEvent O M)
board_event (Ask key) (Hit t) = Some (asked key.op.0 key.args (asks.Hit t.value))
board_event (Ask key) (Miss c) = Some (asked key.op.0 key.args (asks.Miss c))
board_event (Ask key) NotFinal = Some (asked key.op.0 key.args asks.NotFinal)
board_event (Put key out) (Kept t) = Some (kept key.op.0 key.args out (puts.Entry t.value))
board_event (Put key out) (Found t) = Some (kept key.op.0 key.args out (puts.Entry t.value))
board_event _ _ = None

-- the ask or put that a full history refused
abbrev pub full_event : {O M : Type 0} → Event O M → ℕ → ℕ → Option (BoardEvent O M)
full_event (Ask key) entries cells = Some (asked key.op.0 key.args (asks.Full entries cells))
full_event (Put key out) entries cells = Some (kept key.op.0 key.args out (puts.Full entries cells))
full_event _ entries cells = None

abbrev pub try_event : {O M : Type 0} → Try O M → Option (BoardEvent O M)
try_event (Entered e) = board_event e.event e.reply
try_event (Full event entries cells) = full_event event entries cells

-- the entry of what was tried, where it has one
abbrev pub entered : {O M : Type 0} → Try O M → Option (Entry O M)
entered (Entered e) = Some e
entered (Full event entries cells) = None

-- what a session tried by an event that was answered so
abbrev pub try_of : {O M : Type 0} → SessionNo → Event O M → Tried O M → Try O M
try_of session event (Replied reply) = Entered (entry session event reply)
try_of session event (TriedFull entries cells) = Full event entries cells

-- the step of the state behind it
abbrev pub step_of : {O M : Type 0} → Tried O M → Result (Reply O M) StepRefusal
step_of (Replied reply) = Ok reply
step_of (TriedFull entries cells) = Err (StepFull entries cells)

-- an ask or a put, and its entry is the session's
abbrev pub IsSessions : {O M : Type 0} → SessionNo → Try O M → Type 0
IsSessions session (Entered e) = e.session ≡ session
IsSessions session (Full event entries cells) = Unit {0}

pub record IsCallTry {O M : Type 0} (session : SessionNo) (t : Try O M) : Type 0 where
  pub sessions : IsSessions session t
  pub is : IsSome (try_event t)

-- a front of the history that is full, with these numbers of entries and cells
pub record HasFullFront {O M : Type 0} (object_cells : O → ℕ) (morphism_cells : M → ℕ) (seen : List (Entry O M)) (count weight : ℕ) : Type 0 where
  pub front : List (Entry O M)
  pub rest : List (Entry O M)
  pub splits : seen ≡ front ++ rest
  pub full : IsFull object_cells morphism_cells front
  pub count_is : count ≡ length front
  pub weight_is : weight ≡ cells object_cells morphism_cells front

-- what a full history refused was refused by a front of what was seen
abbrev pub IsRefusedByFull : {O M : Type 0} → (O → ℕ) → (M → ℕ) → List (Entry O M) → Try O M → Type 0
IsRefusedByFull object_cells morphism_cells seen (Entered e) = Unit {0}
IsRefusedByFull object_cells morphism_cells seen (Full event entries cells) = HasFullFront object_cells morphism_cells seen entries cells
