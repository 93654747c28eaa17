-- What a state keeps besides what it was made with, for its private functions: what its history says.
use Rattle.std.specs.Prelude.{◌≡◌, ℕ, ◌+◌, ◌*◌, ◌^◌, ◌<◌, ◌≤◌, List, [], ◌∷◌, ◌++◌, length, Option}
use Rattle.std.specs.List.{All}
use Rattle.cap_names.specs.declared.identifiers.Handle.{Handle}
use Rattle.cap_ops.specs.Cells.{IsShortAnswer}
use Rattle.cap_ops.specs.Derivations.{IsWeight, AreCosts}
use Rattle.cap_ops.specs.Mentions.{mentioned}
use Rattle.cap_history.specs.declared.entries.Event.{Event}
use Rattle.cap_history.specs.declared.entries.Reply.{Reply}
use Rattle.cap_history.specs.declared.entries.Entry.{Entry}
use Rattle.cap_history.specs.declared.reading.Finality.{Finality}
use Rattle.cap_history.specs.declared.reading.Keeping.{Keeping}
use Rattle.cap_history.specs.declared.reading.Naming.{Naming}
use Rattle.cap_history.specs.Reading as reading
use Rattle.cap_history.specs.Replies.{Setup, most_entries, most_cells}

-- a kept value names objects that are there, and has at most four morphisms
pub record IsSettled {M : Type 0} (count : ℕ) (k : Keeping M) : Type 0 where
  pub there : All (λ (h : Handle). h.0 < count) (mentioned k.value)
  pub short : IsShortAnswer k.value

-- what a state keeps
pub record Kept (O M : Type 0) : Type 0 where
  pub weights : List (Option ℕ)
  pub finality : Option Finality
  pub objects : List O
  pub names : List Naming
  pub cache : List (Keeping M)
  pub cells : ℕ
  pub entries : List (Entry O M)

-- what one more entry adds to it
pub record Adding (O M : Type 0) : Type 0 where
  pub weights : List (Option ℕ)
  pub finality : Option Finality
  pub fresh : List O
  pub naming : List Naming
  pub keeping : List (Keeping M)
  pub cells : ℕ

abbrev pub with_entry : {O M : Type 0} → Kept O M → Entry O M → Adding O M → Kept O M
with_entry k e a = record { weights = a.weights; finality = a.finality; objects = k.objects ++ a.fresh; names = k.names ++ a.naming; cache = k.cache ++ a.keeping; cells = a.cells; entries = k.entries ++ e ∷ [] }

module _ {O M : Type 0} (object_cells : O → ℕ) (morphism_cells : M → ℕ) where
  -- what is kept is what the history says
  pub record IsState (setup : Setup) (k : Kept O M) : Type 0 where
    pub costs : AreCosts setup.costs
    pub weights_are : k.weights ≡ reading.weights k.entries
    pub weights_fit : All IsWeight k.weights
    pub weights_all : length k.weights ≡ 44
    pub finality_is : k.finality ≡ reading.finality k.entries
    pub objects_are : k.objects ≡ reading.objects k.entries
    pub names_are : k.names ≡ reading.names k.entries
    pub cache_is : k.cache ≡ reading.kept k.entries
    pub cells_are : k.cells ≡ reading.cells object_cells morphism_cells k.entries
    pub few : length k.entries ≤ most_entries
    pub light : k.cells ≤ most_cells + 24 * 2 ^ 32
    pub few_objects : length k.objects ≤ 4 * length k.entries
    pub settled : All (IsSettled (length k.objects)) k.cache
    pub named : All (λ (n : Naming). n.handle.0 < length k.objects) k.names

  -- what is added is what the event and its reply bring
  pub record IsAdded (k : Kept O M) (event : Event O M) (reply : Reply O M) (a : Adding O M) : Type 0 where
    pub weights : a.weights ≡ reading.registered k.weights event reply
    pub finality : a.finality ≡ reading.later_final (length k.entries) reply k.finality
    pub fresh : a.fresh ≡ reading.brought (length k.objects) event reply
    pub naming : a.naming ≡ reading.naming event reply
    pub keeping : a.keeping ≡ reading.keeping event reply
    pub cells : a.cells ≡ k.cells + (reading.event_cells object_cells morphism_cells event + reading.reply_cells object_cells morphism_cells reply)
    pub light : a.cells ≤ k.cells + 24 * 2 ^ 32
