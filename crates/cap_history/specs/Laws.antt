-- What one more entry makes of a history, and what a refusal leaves.
use Rattle.std.specs.Prelude.{◌≡◌, ℕ, ◌+◌, List, [], ◌∷◌, ◌++◌, length}
use Rattle.cap_names.specs.declared.identifiers.SessionNo.{SessionNo}
use Rattle.cap_history.specs.declared.entries.Event.{Event}
use Rattle.cap_history.specs.declared.entries.Reply.{Reply}
use Rattle.cap_history.specs.declared.entries.Reply.TheVariants.{AlreadyFinal, NotFinal, NotOffered, Twice, NameTaken}
use Rattle.cap_history.specs.declared.entries.Entry.{Entry}
use Rattle.cap_history.specs.Reading.{registered, weights, later_final, finality, more_objects, objects, naming, names, keeping, kept, event_cells, reply_cells, cells}
use Rattle.cap_history.specs.Replies.{entry}

-- a history with one more entry says what it said before, with what that entry adds
pub record GrowsByOne {O M : Type 0} (object_cells : O → ℕ) (morphism_cells : M → ℕ) (es : List (Entry O M)) (e : Entry O M) : Type 0 where
  pub weights : weights (es ++ e ∷ []) ≡ registered (weights es) e.event e.reply
  pub finality : finality (es ++ e ∷ []) ≡ later_final (length es) e.reply (finality es)
  pub objects : objects (es ++ e ∷ []) ≡ more_objects (objects es) e.event e.reply
  pub names : names (es ++ e ∷ []) ≡ names es ++ naming e.event e.reply
  pub kept : kept (es ++ e ∷ []) ≡ kept es ++ keeping e.event e.reply
  pub cells : cells object_cells morphism_cells (es ++ e ∷ []) ≡ cells object_cells morphism_cells es + (event_cells object_cells morphism_cells e.event + reply_cells object_cells morphism_cells e.reply)

abbrev pub OneMoreEntry : Type 0 → Type 0 → Type 0
OneMoreEntry O M = (object_cells : O → ℕ) (morphism_cells : M → ℕ) (es : List (Entry O M)) (e : Entry O M) → GrowsByOne object_cells morphism_cells es e

-- the replies that refuse
abbrev pub IsRefusal : {O M : Type 0} → Reply O M → Type 0
IsRefusal (AlreadyFinal at) = Unit {0}
IsRefusal NotFinal = Unit {0}
IsRefusal NotOffered = Unit {0}
IsRefusal (Twice weight) = Unit {0}
IsRefusal (NameTaken h object) = Unit {0}
IsRefusal _ = ⊥

-- two histories say the same of registrations, finality, objects, names and kept values
pub record SaySame {O M : Type 0} (es es' : List (Entry O M)) : Type 0 where
  pub weights : weights es' ≡ weights es
  pub finality : finality es' ≡ finality es
  pub objects : objects es' ≡ objects es
  pub names : names es' ≡ names es
  pub kept : kept es' ≡ kept es

-- an entry that refuses changes nothing but the history
abbrev pub RefusalsChangeNothing : Type 0 → Type 0 → Type 0
RefusalsChangeNothing O M = (es : List (Entry O M)) (session : SessionNo) (event : Event O M) (reply : Reply O M) → IsRefusal reply → SaySame es (es ++ entry session event reply ∷ [])
