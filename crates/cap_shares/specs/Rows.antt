-- Rows of shared categories, and of a session's seats at them.
use Rattle.std.specs.Prelude.{◌≡◌, ℕ, List, length, Some, slice_get}
use Rattle.cap_shares.specs.Shares.{Shared, AtTurn, Joins}

-- the seat belongs to the category's turn
abbrev pub Belongs : Shared → AtTurn → Type 0
Belongs k s = s.place ≡ k.place

-- there are as many categories as before, and each seat of the row has come back to its category
abbrev pub RowJoins : List Shared → List AtTurn → List Shared → Type 0
RowJoins before row after = (length after ≡ length before) × ((c : ℕ) (k : Shared) (s : AtTurn) → slice_get before c ≡ Some k → slice_get row c ≡ Some s → (k' : Shared) × (slice_get after c ≡ Some k') × Joins k s k')
