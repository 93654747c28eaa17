-- A session's seats at shared categories.
use Rattle.std.specs.Prelude.{◌≡◌, List, [], ◌∷◌, Some}
use Rattle.cap_names.specs.declared.identifiers.SessionNo.{SessionNo}
use Rattle.cap_data.specs.Counts.{cells_in_object, cells_in_morphism}
use Rattle.cap_offer.specs.Labels.{any_offer}
use Rattle.cap_seat.specs.Memories.{remembering}
use Rattle.cap_seat.specs.Seats.{Holds}
use Rattle.cap_shares.specs.Shares.{Shared, AtTurn}
use Rattle.cap_commands.specs.Seats.{AtSeat}

-- the seat is one at the category's turn
pub record Fits (k : Shared) (s : AtTurn) : Type 0 where
  pub place : s.place ≡ k.place
  pub label : s.label ≡ Some k.offer

-- and so do the seats of a row, at the first categories
abbrev pub AllFit : List Shared → List AtTurn → Type 0
AllFit ks [] = Unit {0}
AllFit [] (s ∷ row) = ⊥
AllFit (k ∷ ks) (s ∷ row) = Fits k s × AllFit ks row

-- a session sits there, and remembers what the prelude was told
abbrev pub sitting : SessionNo → Shared → AtTurn → AtSeat
sitting session k s = remembering k.offer session s.seen k.memory (record { place = s.place; added = s.added })

abbrev pub sat_down : SessionNo → List Shared → List AtTurn → List AtSeat
sat_down session ks [] = []
sat_down session [] (s ∷ row) = []
sat_down session (k ∷ ks) (s ∷ row) = sitting session k s ∷ sat_down session ks row

abbrev pub HoldsThere : AtSeat → Type 0
HoldsThere a = Holds (any_offer a.offer) cells_in_object cells_in_morphism a

-- what is left of a seat when its session stands up
abbrev pub stood : AtSeat → AtTurn
stood a = record { place = a.hand.place; label = Some a.offer; seen = a.seen; added = a.hand.added }
