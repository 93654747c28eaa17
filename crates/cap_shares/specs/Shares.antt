-- What contracts see of a category that sessions share, and of a session's seat at its turn.
use Rattle.std.specs.Prelude.{◌≡◌, ℕ, ◌+◌, ◌-◌, List, ◌++◌, length, Option, Some}
use Rattle.cap_data.specs.declared.data.ObjData.{ObjData}
use Rattle.cap_data.specs.declared.data.MorData.{MorData}
use Rattle.cap_history.specs.declared.entries.Entry.{Entry}
use Rattle.cap_desk.specs.Books.{Book}
use Rattle.cap_seat.specs.Memories.{Remembered}
use Rattle.cap_offer.specs.Labels.{Label}

abbrev pub Entries : Type 0
Entries = List (Entry ObjData MorData)

-- a list begins with what was seen
abbrev pub BeginsWith : Entries → Entries → Type 0
BeginsWith entries seen = (rest : Entries) × (entries ≡ seen ++ rest)

-- the numbers by which its turn is known, the category, the history with which the turn was opened and its shares; of the seat that sessions don't have its shares, the entries that it has seen and the number of those added at it; and what the prelude was told
pub record Shared : Type 0 where
  pub place : List ℕ
  pub offer : Label
  pub first : Entries
  pub all : ℕ
  pub shares : ℕ
  pub seen : Entries
  pub added : ℕ
  pub memory : Remembered ObjData

-- a session's seat at a turn: the numbers by which the turn is known, the category, the entries that were seen and the number of those added at it
pub record AtTurn : Type 0 where
  pub place : List ℕ
  pub label : Option Label
  pub seen : Entries
  pub added : ℕ

-- a turn that was just opened over a category with its history: the one seat has all shares
abbrev pub opened : List ℕ → Book Label ObjData MorData → Remembered ObjData → ℕ → Shared
opened place book memory shares = record { place = place; offer = book.offer; first = book.entries; all = shares; shares = shares; seen = book.entries; added = 0; memory = memory }

-- one share goes to a session's seat, which has seen as much and has added nothing
abbrev pub fewer : Shared → Shared
fewer k = record k { shares = k.shares - 1 }

abbrev pub given : Shared → AtTurn
given k = record { place = k.place; label = Some k.offer; seen = k.seen; added = 0 }

-- a session's seat has come back: what was seen begins with what either has seen, and what was added is added up
pub record Joins (k : Shared) (s : AtTurn) (k' : Shared) : Type 0 where
  pub is : k' ≡ record k { shares = k.shares + 1; seen = k'.seen; added = k.added + s.added }
  pub own : BeginsWith k'.seen k.seen
  pub other : BeginsWith k'.seen s.seen

-- the history at the end: it begins with what was seen, and has as many entries as there were at first and were added
pub record Closes (k : Shared) (book : Book Label ObjData MorData) : Type 0 where
  pub offer : book.offer ≡ k.offer
  pub grown : BeginsWith book.entries k.seen
  pub many : length book.entries ≡ length k.first + k.added
