-- What small seats were told and tried.
use Rattle.std.proofs.Common.{◌≡◌, ℕ, List, [], ◌∷◌, Some, None, refl}
use Rattle.std.specs.List.{filter_map}
use Rattle.cap_names.specs.declared.identifiers.Handle.{Handle}
use Rattle.cap_names.specs.declared.identifiers.OpId.{OpId}
use Rattle.cap_names.specs.declared.identifiers.SessionNo.{SessionNo}
use Rattle.cap_ops.specs.declared.keys.Key.{Key}
use Rattle.cap_board.specs.declared.answers.Asked.TheVariants as asks
use Rattle.cap_board.specs.Board.{asked}
use Rattle.cap_history.specs.declared.entries.Event.{Event}
use Rattle.cap_history.specs.declared.entries.Event.TheVariants.{Register, Ask}
use Rattle.cap_history.specs.declared.entries.Reply.TheVariants.{Done, NotFinal}
use Rattle.cap_history.specs.Replies.{entry}
use Rattle.cap_seat.specs.declared.tries.Try.{Try}
use Rattle.cap_seat.specs.declared.tries.Tried.TheVariants.{Replied, Full}
use Rattle.cap_seat.specs.Events.{try_event, try_of, entered}
use Rattle.cap_seat.specs.Seats.{told_among}

abbrev at : ℕ → Handle
at n = record { 0 = n }

-- the first object that was told of a handle is its object
told_once : told_among {O = ℕ} ((at 3, 50) ∷ (at 4, 60) ∷ (at 3, 50) ∷ []) (at 4) ≡ Some 60
told_once = refl

not_told : told_among {O = ℕ} ((at 3, 50) ∷ []) (at 4) ≡ None
not_told = refl

abbrev kernel : Key ℕ
kernel = record { op = record { 0 = 16 }; args = [] }

abbrev second : SessionNo
second = record { 0 = 2 }

-- a register, an ask of a category that isn't final, and an ask that a full history refused
abbrev some : List (Try ℕ ℕ)
some = try_of second (Register (record { 0 = 16 }) 20) (Replied Done) ∷ try_of second (Ask kernel) (Replied NotFinal) ∷ try_of second (Ask kernel) (Full 200000 7) ∷ []

-- the refused one has no entry, and the register is no event of a board
entries_of_some : filter_map entered some ≡ entry second (Register (record { 0 = 16 }) 20) Done ∷ entry second (Ask kernel) NotFinal ∷ []
entries_of_some = refl

events_of_some : filter_map try_event some ≡ asked 16 [] asks.NotFinal ∷ asked 16 [] (asks.Full 200000 7) ∷ []
events_of_some = refl
