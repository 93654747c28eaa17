-- How the categories of a prelude are shared among sessions, and closed behind them.
use Rattle.std.specs.Prelude.{◌≡◌, ℕ, suc, ◌+◌, ◌-◌, List, [], ◌∷◌, length, map, Option, Some, None, slice_get}
use Rattle.std.specs.List.{All, AllZip}
use Rattle.cap_data.specs.declared.data.ObjData.{ObjData}
use Rattle.cap_data.specs.declared.data.MorData.{MorData}
use Rattle.cap_data.specs.Counts.{cells_in_object, cells_in_morphism}
use Rattle.cap_fitting.specs.Forms.{CheckedSession}
use Rattle.cap_legal.specs.Legal.{Legal}
use Rattle.cap_desk.specs.Books.{frame}
use Rattle.cap_offer.specs.Labels.{any_offer}
use Rattle.cap_report.specs.declared.report.Trace.{Trace}
use Rattle.cap_commands.specs.Seats.{AtSeat}
use Rattle.cap_shares.specs.Shares.{Entries, BeginsWith, Shared, AtTurn, opened, given}
use Rattle.cap_shares.specs.Rows.{Belongs}
use Rattle.cap_session.specs.declared.jobs.Job.{Job}
use Rattle.cap_session.specs.declared.jobs.Ended.{Ended}

-- the category of a seat, shared as it stands there
abbrev pub IsSharedOf : ℕ → AtSeat → Shared → Type 0
IsSharedOf shares a k = k ≡ opened k.place (record { offer = a.offer; entries = a.seen }) (record { known = a.known; knows = a.knows }) shares

-- so many shares are given to sessions
abbrev pub fewer_by : ℕ → Shared → Shared
fewer_by n k = record k { shares = k.shares - n }

-- the job of a session with a number: its commands, with a seat at each category
pub record IsJob (n : ℕ) (ks : List Shared) (p : CheckedSession) (job : Job) : Type 0 where
  pub number : job.session.0 ≡ n
  pub commands : job.commands.now ≡ p.node.commands
  pub row : job.row.items ≡ map given ks

-- the jobs of sessions, which count from a number
abbrev pub JobsFrom : ℕ → List Shared → List CheckedSession → List Job → Type 0
JobsFrom n ks [] [] = Unit {0}
JobsFrom n ks (p ∷ sessions) (job ∷ jobs) = IsJob n ks p job × JobsFrom (suc n) ks sessions jobs
JobsFrom n ks _ _ = ⊥

-- the rows and the traces of sessions that have run
abbrev pub rows_of : List Ended → List (List AtTurn)
rows_of sessions = map (λ (e : Ended). e.row.items) sessions

abbrev pub traces_of : List Ended → List (Trace ObjData MorData)
traces_of sessions = map (λ (e : Ended). e.trace) sessions

-- the row has a seat of each category
abbrev pub Returns : List Shared → List AtTurn → Type 0
Returns ks row = AllZip Belongs ks row

-- what was seen, and how much was added, at a row's seat at the category with a number
abbrev pub seen_there : Option AtTurn → Entries
seen_there None = []
seen_there (Some s) = s.seen

abbrev pub added_there : Option AtTurn → ℕ
added_there None = 0
added_there (Some s) = s.added

abbrev pub added_in : ℕ → List (List AtTurn) → ℕ
added_in c [] = 0
added_in c (row ∷ rows) = added_there (slice_get row c) + added_in c rows

-- all rows' seats at the category have come back: what was seen begins with what each has seen, and what was added is added up
pub record JoinsAt (c : ℕ) (rows : List (List AtTurn)) (k k' : Shared) : Type 0 where
  pub is : k' ≡ record k { shares = k.shares + length rows; seen = k'.seen; added = k.added + added_in c rows }
  pub own : BeginsWith k'.seen k.seen
  pub others : All (λ (row : List AtTurn). BeginsWith k'.seen (seen_there (slice_get row c))) rows

abbrev pub JoinAll : List Shared → List (List AtTurn) → List Shared → Type 0
JoinAll before rows after = (length after ≡ length before) × ((c : ℕ) (k : Shared) → slice_get before c ≡ Some k → (k' : Shared) × (slice_get after c ≡ Some k') × JoinsAt c rows k k')

-- all shares have come back
abbrev pub IsWholeAgain : Shared → Type 0
IsWholeAgain k = k.shares ≡ k.all

-- the seat of a category that was closed: its history is legal, begins with what was seen, and has as many entries as there were at first and were added
pub record IsClosedAs (k : Shared) (a : AtSeat) : Type 0 where
  pub offer : a.offer ≡ k.offer
  pub legal : Legal (frame (any_offer a.offer) cells_in_object cells_in_morphism) a.seen
  pub grown : BeginsWith a.seen k.seen
  pub many : length a.seen ≡ length k.first + k.added
