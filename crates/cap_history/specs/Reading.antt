-- What a category's history says of its state: registrations, finality, objects, names, kept values, cells. All is read off one list of entries, whichever sessions they are of.
use Rattle.std.specs.Prelude.{◌≡◌, ℕ, suc, ◌+◌, ◌-◌, ◌==◌, if◌then◌else◌, List, [], ◌∷◌, ◌++◌, length, map, replicate, slice_set, Option, Some, None}
use Rattle.std.specs.List.{All, slice_index_or, sum_by}
use Rattle.cap_names.specs.declared.identifiers.OpId.{OpId}
use Rattle.cap_ops.specs.Cells.{key_cells, answer_cells, result_cells}
use Rattle.cap_ops.specs.Mentions.{mentioned}
use Rattle.cap_ops.specs.Told.{told_in}
use Rattle.cap_history.specs.declared.entries.Event.{Event}
use Rattle.cap_history.specs.declared.entries.Event.TheVariants.{Register, Declare, Ask, Put}
use Rattle.cap_history.specs.declared.entries.Reply.{Reply}
use Rattle.cap_history.specs.declared.entries.Reply.TheVariants.{Done, Final, Object, Hit, Kept, Found, NameTaken}
use Rattle.cap_history.specs.declared.entries.Entry.{Entry}
use Rattle.cap_history.specs.declared.entries.Told.{Told}
use Rattle.cap_history.specs.declared.reading.Finality.{Finality}
use Rattle.cap_history.specs.declared.reading.Naming.{Naming}
use Rattle.cap_history.specs.declared.reading.Keeping.{Keeping}

-- what is read off a history entry by entry, from the first
abbrev pub read : {O M A : Type 0} → (A → Event O M → Reply O M → A) → A → List (Entry O M) → A
read next a [] = a
read next a (e ∷ es) = read next (next a e.event e.reply) es

-- the weight at an operation; the operation with number n stands at place n - 1
abbrev pub weight_at : List (Option ℕ) → OpId → Option ℕ
weight_at weights op = slice_index_or weights (op.0 - 1) None

-- the weights of the registers that were answered with done
abbrev pub registered : {O M : Type 0} → List (Option ℕ) → Event O M → Reply O M → List (Option ℕ)
registered weights (Register op weight) Done = slice_set weights (op.0 - 1) (Some weight)
registered weights _ _ = weights

abbrev pub weights : {O M : Type 0} → List (Entry O M) → List (Option ℕ)
weights entries = read registered (replicate 44 None) entries

-- the place of the entry that is answered with final, and the plan that it tells
abbrev pub final_by : {O M : Type 0} → ℕ → Reply O M → Option Finality → Option Finality
final_by place (Final plan) later = Some (record { at = place; plan = plan })
final_by place _ later = later

abbrev pub finality_from : {O M : Type 0} → ℕ → List (Entry O M) → Option Finality
finality_from place [] = None
finality_from place (e ∷ es) = final_by place e.reply (finality_from (suc place) es)

abbrev pub finality : {O M : Type 0} → List (Entry O M) → Option Finality
finality entries = finality_from 0 entries

-- an entry at this place is the first that is answered with final, or an earlier one was
abbrev pub later_final : {O M : Type 0} → ℕ → Reply O M → Option Finality → Option Finality
later_final place reply (Some f) = Some f
later_final place reply None = final_by place reply None

-- the objects that an entry brings, where so many are there: that of a declaration whose handle is the next, and the new ones of what is kept
abbrev pub brought : {O M : Type 0} → ℕ → Event O M → Reply O M → List O
brought count (Declare name object) (Object h) = if h.0 == count then object ∷ [] else []
brought count (Put key out) (Kept t) = out.fresh
brought count _ _ = []

abbrev pub more_objects : {O M : Type 0} → List O → Event O M → Reply O M → List O
more_objects objects event reply = objects ++ brought (length objects) event reply

-- the objects in order of handle: a handle is a place in this list
abbrev pub objects : {O M : Type 0} → List (Entry O M) → List O
objects entries = read more_objects [] entries

-- the name that a declaration gives, with its handle
abbrev pub naming : {O M : Type 0} → Event O M → Reply O M → List Naming
naming (Declare name object) (Object h) = record { name = name; handle = h } ∷ []
naming _ _ = []

abbrev pub names : {O M : Type 0} → List (Entry O M) → List Naming
names entries = read (λ namings event reply. namings ++ naming event reply) [] entries

-- the key that a put keeps, with its value
abbrev pub keeping : {O M : Type 0} → Event O M → Reply O M → List (Keeping M)
keeping (Put key out) (Kept t) = record { key = key; value = t.value } ∷ []
keeping _ _ = []

abbrev pub kept : {O M : Type 0} → List (Entry O M) → List (Keeping M)
kept entries = read (λ keepings event reply. keepings ++ keeping event reply) [] entries

-- a value comes with the objects that it names, each once, in order of mention
pub record AreTold {O M : Type 0} (all : List O) (t : Told O M) : Type 0 where
  pub handles : map (λ told. told.0) t.objects ≡ mentioned t.value
  pub objects : All (λ told. told_in all told.0 ≡ Some told.1) t.objects

-- the cells of data: those of objects and of morphisms are counted by the data's own
module _ {O M : Type 0} (object_cells : O → ℕ) (morphism_cells : M → ℕ) where
  abbrev pub told_cells : Told O M → ℕ
  told_cells t = answer_cells morphism_cells t.value + sum_by (λ x. object_cells x.1) t.objects

  abbrev pub event_cells : Event O M → ℕ
  event_cells (Declare name object) = object_cells object
  event_cells (Ask key) = key_cells morphism_cells key
  event_cells (Put key out) = key_cells morphism_cells key + result_cells object_cells morphism_cells out
  event_cells _ = 0

  abbrev pub reply_cells : Reply O M → ℕ
  reply_cells (Hit t) = told_cells t
  reply_cells (Kept t) = told_cells t
  reply_cells (Found t) = told_cells t
  reply_cells (NameTaken h object) = object_cells object
  reply_cells _ = 0

  abbrev pub cells : List (Entry O M) → ℕ
  cells entries = read (λ n event reply. n + (event_cells event + reply_cells reply)) 0 entries

-- a list of one element or of none
abbrev pub one_or_none : {A : Type 0} → Option A → List A
one_or_none None = []
one_or_none (Some x) = x ∷ []
