-- A turn and a seat with one place belong together.
use Rattle.std.proofs.Common.{◌≡◌, ℕ, List, [], ◌∷◌, ap}
use Rattle.atomic_table.specs.Seated.{TableId}
use Rattle.cap_turn.specs.declared.logged.Logged.{Ghosts}
use Rattle.cap_turn.specs.declared.turn.Turn.{Turn}
use Rattle.cap_turn.specs.declared.turn.TurnSeat.{TurnSeat}
use Rattle.cap_turn.specs.Seats.{numbers, turn_place, seat_place, IsOf}

-- a table by its numbers
id_of : List ℕ → TableId → TableId
id_of (words ∷ slots ∷ views ∷ atom ∷ block ∷ offset ∷ names) other = record { words = words; slots = slots; views_name = views; atom = atom; block = block; offset = offset; slot_names = names }
id_of _ other = other

same-table : (a b : TableId) → numbers a ≡ numbers b → a ≡ b
unfolding id_of
same-table a b e = ap (λ ns. id_of ns a) e

module _ {T E L : Type 0} {g : Ghosts T E L} where
  pub belongs : (turn : Turn T E L) (seat : TurnSeat T E L g) → seat_place seat ≡ turn_place turn → IsOf turn seat
  belongs turn seat e = same-table seat.place.table_id turn.table.shared.table_id e

  pub same-place : (turn : Turn T E L) (seat : TurnSeat T E L g) → IsOf turn seat → seat_place seat ≡ turn_place turn
  same-place turn seat e = ap numbers e
