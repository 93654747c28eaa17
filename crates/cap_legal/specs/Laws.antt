-- What holds of legal histories, and of true events in them.
use Rattle.std.specs.Prelude.{◌≡◌, ℕ, List, [], ◌∷◌, ◌++◌}
use Rattle.cap_ops.specs.Primitives.{OfferData}
use Rattle.cap_terms.specs.declared.body.Rule.{Rule}
use Rattle.cap_history.specs.declared.entries.Event.{Event}
use Rattle.cap_history.specs.declared.entries.Entry.{Entry}
use Rattle.cap_history.specs.May.{May}
use Rattle.cap_history.specs.Replies.{IsFull}
use Rattle.cap_legal.specs.Legal.{Frame, TrueEvent, IsLegalNext, Legal}

-- an event that is true on a history is true on each longer one
abbrev pub TrueStays : {O M : Type 0} → OfferData O M → Type 0
TrueStays {O} {M} D = (rules : List Rule) (entries more : List (Entry O M)) (event : Event O M) → TrueEvent D rules entries event → TrueEvent D rules (entries ++ more) event

-- a true event may be asked
abbrev pub TrueMay : {O M : Type 0} → OfferData O M → Type 0
TrueMay {O} {M} D = (rules : List Rule) (entries : List (Entry O M)) (event : Event O M) → TrueEvent D rules entries event → May entries event

module _ {O M : Type 0} (D : OfferData O M) where
  abbrev pub frame_of : List Rule → (O → ℕ) → (M → ℕ) → Frame O M
  frame_of rules object_cells morphism_cells = record { offer = D; rules = rules; object_cells = object_cells; morphism_cells = morphism_cells }

  -- a front of a legal history is legal
  abbrev pub FrontIsLegal : Type 0
  FrontIsLegal = (rules : List Rule) (object_cells : O → ℕ) (morphism_cells : M → ℕ) (entries more : List (Entry O M)) → Legal (frame_of rules object_cells morphism_cells) (entries ++ more)
      → Legal (frame_of rules object_cells morphism_cells) entries

  -- a legal history with one more entry that is legal on it is legal
  abbrev pub NextIsLegal : Type 0
  NextIsLegal = (rules : List Rule) (object_cells : O → ℕ) (morphism_cells : M → ℕ) (entries : List (Entry O M)) (e : Entry O M) → Legal (frame_of rules object_cells morphism_cells) entries
      → IsLegalNext (frame_of rules object_cells morphism_cells) entries e → Legal (frame_of rules object_cells morphism_cells) (entries ++ e ∷ [])

  -- no legal history is longer than a full one
  abbrev pub FullIsWhole : Type 0
  FullIsWhole = (rules : List Rule) (object_cells : O → ℕ) (morphism_cells : M → ℕ) (entries more : List (Entry O M)) → Legal (frame_of rules object_cells morphism_cells) (entries ++ more)
      → IsFull object_cells morphism_cells entries → more ≡ []
