-- A category's state as its history, and what a step does to it.
use Rattle.std.specs.Prelude.{◌≡◌, ℕ, List, length, Result, Ok, Err}
use Rattle.cap_names.specs.declared.identifiers.SessionNo.{SessionNo}
use Rattle.cap_history.specs.declared.entries.Event.{Event}
use Rattle.cap_history.specs.declared.entries.Reply.{Reply}
use Rattle.cap_history.specs.declared.entries.Entry.{Entry}
use Rattle.cap_history.specs.Reading.{cells}
use Rattle.cap_history.specs.Replies.{Setup, IsFull, HasRoom, Extends}
use Rattle.cap_store.specs.declared.refusals.StepRefusal.{StepRefusal}
use Rattle.cap_store.specs.declared.refusals.StepRefusal.TheVariants.{Full, NoMemory}
use Rattle.cap_store.specs.declared.refusals.EnterRefusal.{EnterRefusal}
use Rattle.cap_store.specs.declared.refusals.EnterRefusal.TheVariants.{Full as FullFor, NoMemory as NoMemoryFor}

-- what a state is seen as: what it was made with, and its history
pub record Log (O M : Type 0) : Type 0 where
  pub setup : Setup
  pub entries : List (Entry O M)

module _ {O M : Type 0} (object_cells : O → ℕ) (morphism_cells : M → ℕ) where
  -- a step: the reply of the history, which it extends by the entry; full exactly where it is, with its entries and cells; where it is full or memory ran out nothing changes
  abbrev pub Steps : Log O M → SessionNo → Event O M → Result (Reply O M) StepRefusal → Log O M → Type 0
  Steps log session event (Ok reply) log' = (log'.setup ≡ log.setup) × Extends object_cells morphism_cells log.setup log.entries session event reply log'.entries
  Steps log session event (Err (Full n k)) log' = IsFull object_cells morphism_cells log.entries × (n ≡ length log.entries) × (k ≡ cells object_cells morphism_cells log.entries) × (log' ≡ log)
  Steps log session event (Err NoMemory) log' = HasRoom object_cells morphism_cells log.entries × (log' ≡ log)

-- the step that an entering is, which also answers a copy of its entry, and gives the event back where the history is full
abbrev pub reply_of : {O M : Type 0} → Result (Reply O M × Entry O M) (EnterRefusal O M) → Result (Reply O M) StepRefusal
reply_of (Ok x) = Ok x.0
reply_of (Err (FullFor event n k)) = Err (Full n k)
reply_of (Err NoMemoryFor) = Err NoMemory

abbrev pub GivesBack : {O M : Type 0} → Event O M → Result (Reply O M × Entry O M) (EnterRefusal O M) → Type 0
GivesBack event (Err (FullFor back n k)) = back ≡ event
GivesBack event _ = Unit {0}
